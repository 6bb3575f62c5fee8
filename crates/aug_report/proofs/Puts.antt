-- A lane that puts a weight on a key, beside another that looks.
use Rattle.std.proofs.Common.{◌≡◌, ◌≢◌, ℕ, zero, suc, ◌+◌, ◌-◌, ◌%◌, ◌^◌, ◌<◌, ◌≤◌, Bool, true, false, ◌==◌, List, [], ◌∷◌, ◌++◌, length, get_or, refl, ap, sym, ◌∙◌, inl, inr, arith, All, Contains, Option, Some, None, subst, if◌then◌else◌}
use Rattle.std.specs.Prelude.{unwrap_or}
use Rattle.std.proofs.lemmas.Bool.{eq-eqb, eqb-true, cases_Bool, cases_lt, false≢true}
use Rattle.std.proofs.lemmas.List.Elements.{All-get_or}
use Rattle.std.proofs.lemmas.List.Prefix.{front_reads}
use Rattle.aug_model.specs.Keys.{is_member, keys_of, pairs_of}
use Rattle.aug_model.specs.Queries.{weight_of}
use Rattle.aug_model.specs.declared.outcome.Outcome.{Outcome}
use Rattle.aug_model.specs.declared.outcome.Outcome.TheVariants as outcome
use Rattle.aug_core.specs.Counts.{change}
use Rattle.aug_core.specs.Cuts.{Cut, serial_of, weight_at, set_of_cut, pairs_of_cut, opening_cut}
use Rattle.aug_core.specs.declared.view.Change.{Change}
use Rattle.aug_core.specs.Prefixes.{IsPrefix}
use Rattle.aug_trie.specs.History.{last_cut}
use Rattle.aug_trie.specs.Knowledge.{StandsIn}
use Rattle.aug_trie.specs.Tallies.{Tallies, Weighs}
use Rattle.aug_trie.specs.Updates.{ComesTo}
use Rattle.aug_trie.specs.declared.updates.request.Request.TheVariants as request
use Rattle.aug_script.specs.declared.reply.Reply.{Reply}
use Rattle.aug_script.specs.declared.reply.Reply.TheVariants as reply
use Rattle.aug_script.specs.declared.verb.Verb.{Verb}
use Rattle.aug_script.specs.declared.verb.Verb.TheVariants as verb
use Rattle.aug_trie.proofs.Risen.{last-at_most_final, last-rises, opening-at_most}
use Rattle.aug_report.specs.AllowedReport.{Lane, Answers, AnswersAll, RunsLane, AllowedReport, all_accepted, reply_to_put}
use Rattle.aug_report.specs.Theorems.{row_at, report_with, put_and_query}
use Rattle.aug_trie.proofs.CutLemmas.{serial-opening, serial_rises, is_member-set_of_cut}
use Rattle.aug_core.proofs.PrefixLemmas.{prefix_trans, either_prefix}
use Rattle.aug_trie.proofs.TallyLemmas.{times_first, none_low, once_between}
use Rattle.aug_report.proofs.Advances.{times_either}
use Rattle.aug_report.proofs.Histories.{prefix-length}
use Rattle.aug_report.proofs.Lanes.{there_if_odd}
use Rattle.aug_report.proofs.TwoInsertions.{nobody, two_lanes, serial-absent}

-- the last cut of a beginning stands in the whole
last_within : (front whole : List Cut) → 0 < length front → IsPrefix front whole → last_cut front ≡ get_or whole (length front - 1) []
last_within front whole some b = sym (front_reads [] whole front b.0 b.1 (length front - 1) (omega arith))

-- tells the replies to a put apart
abbrev put_reply : Reply → ℕ
put_reply reply.New = 1
put_reply reply.Set = 2
put_reply other = 3

-- what a lane that replaced a weight has accepted, and what it never saw
record WasSet (k w : ℕ) (end : Lane) : Type 0 where
  some : 0 < length end.knows.history
  number : ℕ
  suits : (number + 1) % 2 ≡ 1
  shows : number + 1 ≤ serial_of (last_cut end.knows.history) k
  never : All (λ cut. serial_of cut k ≢ number) end.knows.history
  two : end.knows.accepted ≡ change k number 0 ∷ change k (number + 1) w ∷ []

shown_serial : (cut : Cut) (k n w : ℕ) → StandsIn cut (change k n w) → n ≤ serial_of cut k
shown_serial cut k n w stands = elim stands [
  | inl over ↦ omega (arith, over)
  | inr shown ↦ omega (arith, ap (λ (z : ℕ × ℕ). z.0) shown)
]

was_set : (opening : Cut) (history : List Cut) (k w number lane : ℕ) (end : Lane) → RunsLane opening history ((row_at number lane (verb.Put k w), reply.Set) ∷ []) end → WasSet k w end
unfolding AnswersAll
was_set opening history k w number lane end ran = by_outcome ran.runs.1.outcome ran.runs.1.puts ran.runs.1.answers
  where
    by_outcome : (done : Outcome) → ComesTo (request.Put w) k done ran.start.knows ran.runs.0.knows → reply.Set ≡ reply_to_put done → WasSet k w end
    by_outcome outcome.Accepted puts is = absurd (omega (arith, ap put_reply is))
    by_outcome outcome.Refused puts is = absurd (omega (arith, ap put_reply is))
    by_outcome outcome.Unchanged puts is = absurd puts
    by_outcome outcome.TooGreat puts is = absurd puts
    by_outcome outcome.TooLittle puts is = absurd puts
    by_outcome outcome.Replaced puts is =
        let same : end ≡ ran.runs.0 = ran.runs.2 in
        subst (λ (l : Lane). WasSet k w l) (sym same) (record {
          some = prefix-length (opening ∷ []) ran.runs.0.knows.history (prefix_trans (opening ∷ []) ran.start.knows.history ran.runs.0.knows.history ran.opens.sees_opening puts.goes_on);
          number = puts.number;
          suits = puts.suits;
          shows = shown_serial (last_cut ran.runs.0.knows.history) k (puts.number + 1) w puts.shows;
          never = puts.never_shown;
          two = puts.adds ∙ ap (λ l. l ++ change k puts.number 0 ∷ change k (puts.number + 1) w ∷ []) ran.opens.no_change;
        })

-- what a lane that put a key in has accepted
record WasPut (k w : ℕ) (end : Lane) : Type 0 where
  number : ℕ
  one : end.knows.accepted ≡ change k number w ∷ []

was_put : (opening : Cut) (history : List Cut) (k w number lane : ℕ) (end : Lane) → RunsLane opening history ((row_at number lane (verb.Put k w), reply.New) ∷ []) end → WasPut k w end
unfolding AnswersAll
was_put opening history k w number lane end ran = by_outcome ran.runs.1.outcome ran.runs.1.puts ran.runs.1.answers
  where
    by_outcome : (done : Outcome) → ComesTo (request.Put w) k done ran.start.knows ran.runs.0.knows → reply.New ≡ reply_to_put done → WasPut k w end
    by_outcome outcome.Replaced puts is = absurd (omega (arith, ap put_reply is))
    by_outcome outcome.Refused puts is = absurd (omega (arith, ap put_reply is))
    by_outcome outcome.Unchanged puts is = absurd puts
    by_outcome outcome.TooGreat puts is = absurd puts
    by_outcome outcome.TooLittle puts is = absurd puts
    by_outcome outcome.Accepted puts is =
        let same : end ≡ ran.runs.0 = ran.runs.2 in
        subst (λ (l : Lane). WasPut k w l) (sym same) (record {
          number = puts.number;
          one = puts.adds ∙ ap (λ l. l ++ change k puts.number w ∷ []) ran.opens.no_change;
        })

-- the weight of a key among pairs that are made of keys
weight_of-pairs : (f : ℕ → ℕ) (keys : List ℕ) (k : ℕ) → weight_of (pairs_of f keys) k ≡ (if is_member keys k then Some (f k) else None)
weight_of-pairs f [] k = refl
weight_of-pairs f (x ∷ keys) k = elim (cases_Bool (x == k)) [
  | inl t ↦ rw t (ap (λ j. Some (f j)) (eqb-true x k t))
  | inr n ↦ rw n (weight_of-pairs f keys k)
]

only : (c x : Change) → Contains (c ∷ []) x → x ≡ c
only c x (zero, below, is) = sym is
only c x (suc i, below, is) = absurd (omega (arith, below))

-- what a lane that looked and asked saw: the cut, which stands in the history and is no earlier than the opening one
record Saw (opening : Cut) (history : List Cut) (about : List (ℕ × ℕ) → Reply) (said : Reply) (end : Lane) : Type 0 where
  seen : List Cut
  some : 0 < length seen
  opens : IsPrefix (opening ∷ []) seen
  within : IsPrefix seen history
  says : said ≡ about (pairs_of_cut (last_cut seen))
  none : end.knows.accepted ≡ []

saw : (opening : Cut) (history : List Cut) (asked : Verb) (about : List (ℕ × ℕ) → Reply) (said : Reply) (end : Lane)
    → ((old new : Lane) → Answers asked said old new → (said ≡ about (pairs_of_cut old.held)) × (new ≡ old))
    → RunsLane opening history ((row_at 2 1 verb.Look, reply.Looked) ∷ (row_at 3 1 asked, said) ∷ []) end → Saw opening history about said end
unfolding AnswersAll
saw opening history asked about said end asks ran =
    let mid = ran.runs.0 in
    let looks = ran.runs.1 in
    let last = ran.runs.2.0 in
    let asked' = asks mid last ran.runs.2.1 in
    let same : end ≡ mid = ran.runs.2.2 ∙ asked'.1 in
    let opens = prefix_trans (opening ∷ []) ran.start.knows.history mid.knows.history ran.opens.sees_opening looks.1.goes_on in
    record {
      seen = mid.knows.history;
      some = prefix-length (opening ∷ []) mid.knows.history opens;
      opens = opens;
      within = subst (λ (l : Lane). IsPrefix l.knows.history history) same ran.of_history;
      says = asked'.0 ∙ ap (λ (c : Cut). about (pairs_of_cut c)) looks.1.is_last;
      none = ap (λ (l : Lane). l.knows.accepted) same ∙ looks.1.same_changes ∙ ran.opens.no_change;
    }

abbrev yes_or_no : Bool → Reply
yes_or_no b = if b then reply.Yes else reply.No

abbrev says_yes : Reply → Bool
says_yes reply.Yes = true
says_yes other = false

not_there : (cut : Cut) (k : ℕ) → reply.No ≡ yes_or_no (is_member (keys_of (pairs_of_cut cut)) k) → serial_of cut k % 2 ≡ 1 → ⊥
not_there cut k says is_odd =
    let there : is_member (keys_of (pairs_of_cut cut)) k ≡ true = there_if_odd cut k ∙ eq-eqb (serial_of cut k % 2) 1 is_odd in
    false≢true (ap says_yes says ∙ ap (λ b. says_yes (yes_or_no b)) there)

-- two changes are all that happened to a key that opened with serial 1: they have the serials 2 and 3
two_happened : (c d : Cut) (k n w : ℕ) → serial_of c k ≡ 1 → (n + 1) % 2 ≡ 1 → n + 1 ≤ serial_of d k → Tallies c d (change k n 0 ∷ change k (n + 1) w ∷ []) → (n ≡ 2) × (serial_of d k ≤ 3)
two_happened c d k n w opened suits high tallies =
    let both : List Change = change k n 0 ∷ change k (n + 1) w ∷ [] in
    let first = times_first (change k n 0) (change k (n + 1) w ∷ []) in
    let some : 2 ≤ n = elim (cases_lt 1 n) [
      | inl more ↦ more
      | inr less ↦ absurd (omega (arith, first, none_low c d both tallies k n (omega (arith, opened, less))))
    ] in
    let is_two : n ≡ 2 = elim (times_either k n 0 w 2 (once_between c d (change k n 0 ∷ change k (n + 1) w ∷ []) tallies k 2 (omega (arith, opened)) (omega (arith, some, high)))) [
      | inl e ↦ omega (arith, e)
      | inr e ↦ absurd (omega (arith, e, some))
    ] in (
      is_two,
      elim (cases_lt 3 (serial_of d k)) [
        | inl more ↦ elim (times_either k n 0 w 4 (once_between c d (change k n 0 ∷ change k (n + 1) w ∷ []) tallies k 4 (omega (arith, opened)) more)) [
          | inl e ↦ absurd (omega (arith, e, is_two))
          | inr e ↦ absurd (omega (arith, e, is_two))
        ]
        | inr less ↦ less
      ],
    )

module _ (k w bits number size inserts removals : ℕ) (members closing : List (ℕ × ℕ)) where
  pub set_keeps_the_key : k < 2 ^ bits → is_member (keys_of members) k ≡ true
      → AllowedReport bits 2 members (report_with number (put_and_query k w reply.Set (verb.Has k) reply.No) size inserts removals) closing → ⊥
  set_keeps_the_key fits there allowed =
      let opening = opening_cut bits members in
      let end = get_or allowed.lanes 0 nobody in
      let set = was_set opening allowed.history k w 1 0 end (allowed.runs 0 nobody (omega arith)) in
      let view = saw opening allowed.history (verb.Has k) (λ pairs. yes_or_no (is_member (keys_of pairs) k)) reply.No (get_or allowed.lanes 1 nobody) (λ old new asks. asks) (allowed.runs 1 nobody (omega arith)) in
      let cut = last_cut view.seen in
      let changes : all_accepted allowed.lanes ≡ change k set.number 0 ∷ change k (set.number + 1) w ∷ [] = two_lanes allowed.lanes allowed.one_each ∙ rw (set.two, view.none) refl in
      let tallies = rw changes at allowed.tallies in
      let opened : serial_of (opening_cut bits members) k ≡ 1 = serial-opening bits members k fits ∙ rw there refl in
      let within = (allowed.runs 0 nobody (omega arith)).of_history in
      let last = last-at_most_final bits members allowed.history allowed.is_history end.knows.history set.some within in
      let happened = two_happened (opening_cut bits members) (last_cut allowed.history) k set.number w opened set.suits (omega (arith, set.shows, serial_rises (last_cut end.knows.history) (last_cut allowed.history) k last)) tallies in
      let low = serial_rises (opening_cut bits members) (last_cut view.seen) k (opening-at_most bits members allowed.history allowed.is_history view.seen view.opens view.within) in
      let high = serial_rises (last_cut view.seen) (last_cut allowed.history) k (last-at_most_final bits members allowed.history allowed.is_history view.seen view.some view.within) in
      let even : serial_of (last_cut view.seen) k % 2 ≡ 1 → ⊥ = not_there (last_cut view.seen) k view.says in
      elim (either_prefix end.knows.history view.seen allowed.history within view.within) [
        | inl before ↦
            let later = last-rises bits members allowed.history allowed.is_history end.knows.history view.seen set.some before view.within in
            even (omega (arith, set.shows, serial_rises (last_cut end.knows.history) (last_cut view.seen) k later, high, happened.0, happened.1))
        | inr behind ↦
            let fits' = prefix-length view.seen end.knows.history behind in
            let never = All-get_or (λ c. serial_of c k ≢ set.number) end.knows.history (length view.seen - 1) [] (omega (arith, fits', view.some)) set.never in
            let is = ap (λ (c : Cut). serial_of c k) (last_within view.seen end.knows.history view.some behind) in
            elim (cases_lt (serial_of (last_cut view.seen) k) 2) [
              | inl less ↦ even (omega (arith, less, low, opened))
              | inr more ↦ elim (cases_lt 2 (serial_of (last_cut view.seen) k)) [
                | inl over ↦ even (omega (arith, over, high, happened.1))
                | inr under ↦ never (omega (arith, is, more, under, happened.0))
              ]
            ]
      ]

  abbrev found : Reply → Option ℕ
  found (reply.Found o) = o
  found other = None

  abbrev is_there : Option ℕ → ℕ
  is_there None = 0
  is_there (Some x) = 1

  pub weights_were_put : (v : ℕ) → is_member (keys_of members) k ≡ false → v ≢ w
      → AllowedReport bits 2 members (report_with number (put_and_query k w reply.New (verb.Weight k) (reply.Found (Some v))) size inserts removals) closing → ⊥
  weights_were_put v absent apart allowed =
      let opening = opening_cut bits members in
      let put = was_put opening allowed.history k w 1 0 (get_or allowed.lanes 0 nobody) (allowed.runs 0 nobody (omega arith)) in
      let view = saw opening allowed.history (verb.Weight k) (λ pairs. reply.Found (weight_of pairs k)) (reply.Found (Some v)) (get_or allowed.lanes 1 nobody) (λ old new asks. asks) (allowed.runs 1 nobody (omega arith)) in
      let changes : all_accepted allowed.lanes ≡ change k put.number w ∷ [] = two_lanes allowed.lanes allowed.one_each ∙ rw (put.one, view.none) refl in
      let said : Some v ≡ (if is_member (set_of_cut (last_cut view.seen)) k then Some (weight_at (last_cut view.seen) k) else None) = ap found view.says ∙ weight_of-pairs (weight_at (last_cut view.seen)) (set_of_cut (last_cut view.seen)) k in
      elim (cases_Bool (is_member (set_of_cut (last_cut view.seen)) k)) [
        | inl t ↦
            let is : v ≡ weight_at (last_cut view.seen) k = ap (λ o. unwrap_or o 0) said ∙ rw t refl in
            let is_odd = eqb-true (serial_of (last_cut view.seen) k % 2) 1 (sym (is_member-set_of_cut (last_cut view.seen) k) ∙ t) in
            let long = prefix-length view.seen allowed.history view.within in
            let there = All-get_or (Weighs (opening_cut bits members) (all_accepted allowed.lanes)) allowed.history (length view.seen - 1) [] (omega (arith, long, view.some)) allowed.weigh in
            let weighs = subst (λ (c : Cut). Weighs (opening_cut bits members) (all_accepted allowed.lanes) c) (sym (last_within view.seen allowed.history view.some view.within)) there in
            let one = subst (λ (l : List Change). Contains l (change k (serial_of (last_cut view.seen) k) (weight_at (last_cut view.seen) k))) changes (weighs k (omega (arith, is_odd, serial-absent bits members k absent))) in
            apart (is ∙ ap (λ (c : Change). c.weight) (only (change k put.number w) (change k (serial_of (last_cut view.seen) k) (weight_at (last_cut view.seen) k)) one))
        | inr f ↦
            let bad : 1 ≡ 0 = ap is_there said ∙ rw f refl in
            omega (arith, bad)
      ]
