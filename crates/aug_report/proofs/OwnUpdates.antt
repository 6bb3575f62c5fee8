-- What a lane that is alone must see of its own updates.
use Rattle.std.proofs.Common.{◌≡◌, ℕ, ◌+◌, ◌^◌, ◌<◌, Bool, true, false, ◌==◌, ◌||◌, List, [], ◌∷◌, ◌++◌, filter, get_or, nat_lt, refl, ap, sym, ◌∙◌, inl, inr, arith, All, subst, if◌then◌else◌}
use Rattle.std.proofs.lemmas.Bool.{eq-eqb, cases_Bool, false≢true}
use Rattle.std.proofs.lemmas.List.Elements.{All-nil, All-cons, All-weaker}
use Rattle.aug_model.specs.Keys.{IsKeySet, is_member, keys_of, with_pair}
use Rattle.aug_core.specs.Cuts.{Cut, IsAtMost}
use Rattle.aug_core.specs.declared.view.Change.{Change}
use Rattle.aug_trie.specs.History.{last_cut, IsHistory}
use Rattle.aug_trie.specs.Knowledge.{Knowledge, IsKnowledge, StandsIn}
use Rattle.aug_trie.specs.Updates.{TakesSnapshot}
use Rattle.aug_script.specs.Replies.{replies_of, sets_of, is_insertion}
use Rattle.aug_script.specs.declared.reply.Reply.{Reply}
use Rattle.aug_script.specs.declared.reply.Reply.TheVariants as reply
use Rattle.aug_script.specs.declared.report.Report.{Report}
use Rattle.aug_script.specs.declared.row.Row.{Row}
use Rattle.aug_script.specs.declared.verb.Verb.TheVariants as verb
use Rattle.aug_trie.proofs.Risen.{last-rises, opens-some}
use Rattle.aug_report.specs.AllowedReport.{AllowedReport, AllowedReports}
use Rattle.aug_report.specs.Theorems.{row_at, report_with, insertion_line, round_with}
use Rattle.aug_core.proofs.PrefixLemmas.{prefix_refl}
use Rattle.aug_report.proofs.OneKey.{empty_set}
use Rattle.aug_report.proofs.OneLane.{one_report}

abbrev Own : Row × Reply → Type 0
Own line = line.0.lane ≡ 0

or_true : (b : Bool) → (b || true) ≡ true
or_true true = refl
or_true false = refl

-- a key among pairs
there_in : (front back : List (ℕ × ℕ)) (k w : ℕ) → is_member (keys_of (front ++ (k, w) ∷ back)) k ≡ true
there_in [] back k w = rw (eq-eqb k k refl) refl
there_in (p ∷ front) back k w = ap (λ b. p.0 == k || b) (there_in front back k w) ∙ or_true (p.0 == k)

-- the set after an insertion
abbrev inserted : List (ℕ × ℕ) → ℕ → List (ℕ × ℕ)
inserted members k = if is_member (keys_of members) k then members else with_pair members k k

there_inserted : (members : List (ℕ × ℕ)) (k : ℕ) → is_member (keys_of (inserted members k)) k ≡ true
there_inserted members k = elim (cases_Bool (is_member (keys_of members) k)) [
  | inl t ↦ rw t t
  | inr f ↦ rw f (there_in (filter (λ p. nat_lt p.0 k) members) (filter (λ p. nat_lt k p.0) members) k k)
]

abbrev says_yes : Reply → Bool
says_yes reply.Yes = true
says_yes other = false

abbrev reply_at : ℕ → Report → Reply
reply_at i r = (get_or r.rows i (row_at 0 0 verb.Look, reply.Looked)).1

abbrev unseen : ℕ → List (Row × Reply)
unseen k = (row_at 1 0 (verb.Insert k), reply.New) ∷ (row_at 2 0 verb.Look, reply.Looked) ∷ (row_at 3 0 (verb.Has k), reply.No) ∷ []

own_three : (k : ℕ) → All Own (unseen k)
own_three k = All-cons Own (row_at 1 0 (verb.Insert k), reply.New) ((row_at 2 0 verb.Look, reply.Looked) ∷ (row_at 3 0 (verb.Has k), reply.No) ∷ []) refl
    (All-cons Own (row_at 2 0 verb.Look, reply.Looked) ((row_at 3 0 (verb.Has k), reply.No) ∷ []) refl (All-cons Own (row_at 3 0 (verb.Has k), reply.No) [] refl (All-nil Own)))

pub sees_its_insertion : (k bits workers number size inserts removals : ℕ) (members closing : List (ℕ × ℕ)) → 0 < workers → IsKeySet bits (keys_of members)
    → AllowedReport bits workers members (report_with number (unseen k) size inserts removals) closing → ⊥
unfolding replies_of
sees_its_insertion k bits workers number size inserts removals members closing some is_set allowed =
    let told = one_report bits workers members (report_with number (unseen k) size inserts removals) closing is_set allowed 0 some (own_three k) in
    let last : false ≡ says_yes (if is_member (keys_of (inserted members k)) k then reply.Yes else reply.No) = ap (λ (r : Report). says_yes (reply_at 2 r)) told.0 in
    false≢true (last ∙ ap (λ b. says_yes (if b then reply.Yes else reply.No)) (there_inserted members k))

-- what stands in a cut stands in a later one
stands_on : (c d : Cut) → IsAtMost c d → (change : Change) → StandsIn c change → StandsIn d change
stands_on c d le change stands = elim (le.no_greater change.key) [
  | inl less ↦ elim stands [
    | inl over ↦ inl (omega (arith, over, less))
    | inr shown ↦ inl (omega (arith, ap (λ (z : ℕ × ℕ). z.0) shown, less))
  ]
  | inr same ↦ elim stands [
    | inl over ↦ inl (omega (arith, over, ap (λ (z : ℕ × ℕ). z.0) same))
    | inr shown ↦ inr (sym same ∙ shown)
  ]
]

pub snapshots_show : (bits : ℕ) (members : List (ℕ × ℕ)) (old new : Knowledge) (snapshot : Cut) → IsKnowledge bits members old → IsHistory bits members new.history
    → TakesSnapshot old new snapshot → All (StandsIn snapshot) old.accepted
snapshots_show bits members old new snapshot known is_history takes =
    let some = opens-some bits members old.history known.is_history old.history known.is_history.opens in
    let up = last-rises bits members new.history is_history old.history new.history some takes.goes_on (prefix_refl new.history) in
    subst (λ (c : Cut). All (StandsIn c) old.accepted) (sym takes.is_last)
    (All-weaker (StandsIn (last_cut old.history)) (StandsIn (last_cut new.history)) (stands_on (last_cut old.history) (last_cut new.history) up) old.accepted known.stands)

own_one : (line : Row × Reply) → line.0.lane ≡ 0 → All Own (line ∷ [])
own_one line own = All-cons Own line [] own (All-nil Own)

pub new_changes : (k bits workers number size inserts removals : ℕ) (members : List (ℕ × ℕ)) → 0 < workers → IsKeySet bits (keys_of members)
    → AllowedReport bits workers members (report_with number (insertion_line k reply.New) size inserts removals) members → ⊥
unfolding replies_of sets_of
new_changes k bits workers number size inserts removals members some is_set allowed =
    let told = one_report bits workers members (report_with number (insertion_line k reply.New) size inserts removals) members is_set allowed 0 some (own_one (row_at 1 0 (verb.Insert k), reply.New) refl) in
    let closes : members ≡ inserted members k = told.1 in
    let there = ap (λ (l : List (ℕ × ℕ)). is_member (keys_of l) k) closes ∙ there_inserted members k in
    let said : true ≡ is_insertion (if is_member (keys_of members) k then reply.Old else reply.New) = ap (λ (r : Report). is_insertion (reply_at 0 r)) told.0 in
    false≢true (sym (said ∙ ap (λ b. is_insertion (if b then reply.Old else reply.New)) there))

pub old_has_cause : (k bits workers number size inserts removals : ℕ) (members closing : List (ℕ × ℕ)) → 0 < workers → IsKeySet bits (keys_of members)
    → is_member (keys_of members) k ≡ false
    → AllowedReport bits workers members (report_with number (insertion_line k reply.Old) size inserts removals) closing → ⊥
unfolding replies_of
old_has_cause k bits workers number size inserts removals members closing some is_set absent allowed =
    let told = one_report bits workers members (report_with number (insertion_line k reply.Old) size inserts removals) closing is_set allowed 0 some (own_one (row_at 1 0 (verb.Insert k), reply.Old) refl) in
    let said : false ≡ is_insertion (if is_member (keys_of members) k then reply.Old else reply.New) = ap (λ (r : Report). is_insertion (reply_at 0 r)) told.0 in
    false≢true (said ∙ ap (λ b. is_insertion (if b then reply.Old else reply.New)) absent)

-- the set of one key
one_key_set : (bits k : ℕ) → k < 2 ^ bits → IsKeySet bits (k ∷ [])
one_key_set bits k fits = record { rising = λ i below. absurd (omega (arith, below)); below = All-cons (λ j. j < 2 ^ bits) k [] fits (All-nil (λ j. j < 2 ^ bits)) }

pub next_round_goes_on : (k bits workers number size inserts removals size' inserts' removals' : ℕ) → 0 < workers → k < 2 ^ bits
    → AllowedReports workers number [] (round_with bits (row_at 1 0 (verb.Insert k)) ∷ round_with bits (row_at 2 0 (verb.Has k)) ∷ [])
    (report_with number (insertion_line k reply.New) size inserts removals ∷ report_with (number + 1) ((row_at 2 0 (verb.Has k), reply.No) ∷ []) size' inserts' removals' ∷ []) → ⊥
unfolding AllowedReports replies_of sets_of
next_round_goes_on k bits workers number size inserts removals size' inserts' removals' some fits allowed =
    let first = one_report bits workers [] (report_with number (insertion_line k reply.New) size inserts removals) allowed.0 (empty_set bits) allowed.2 0 some (own_one (row_at 1 0 (verb.Insert k), reply.New) refl) in
    let closes : allowed.0 ≡ (k, k) ∷ [] = first.1 in
    let is_set = subst (λ (l : List (ℕ × ℕ)). IsKeySet bits (keys_of l)) (sym closes) (one_key_set bits k fits) in
    let second = one_report bits workers allowed.0 (report_with (number + 1) ((row_at 2 0 (verb.Has k), reply.No) ∷ []) size' inserts' removals') allowed.3.0 is_set allowed.3.2 0 some (own_one (row_at 2 0 (verb.Has k), reply.No) refl) in
    let said : false ≡ says_yes (if is_member (keys_of allowed.0) k then reply.Yes else reply.No) = ap (λ (r : Report). says_yes (reply_at 0 r)) second.0 in
    let there : is_member (keys_of allowed.0) k ≡ true = ap (λ (l : List (ℕ × ℕ)). is_member (keys_of l) k) closes ∙ rw (eq-eqb k k refl) refl in
    false≢true (said ∙ ap (λ b. says_yes (if b then reply.Yes else reply.No)) there)
