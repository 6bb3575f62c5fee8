-- What a parse finds for an option that has a default, in a command where nothing excludes anything.
use Rattle.std.proofs.Common.{zero, suc, ◌≡◌, ◌∙◌, ◌<◌, ◌≤◌, ap, ℕ, Bool, true, false, List, [], ◌∷◌, length, is_some, Option, Some, None, refl, sym, subst, inl, inr, arith}
use Rattle.std.specs.List.{All, slice_index_or}
use Rattle.std.specs.Str.{bytes_eq}
use Rattle.std.specs.Prelude.{find, option_map, slice_get}
use Rattle.std.specs.Borrow.{Bor}
use Rattle.std.proofs.lemmas.List.Elements.{All-get_or}
use Rattle.std.proofs.lemmas.Slice.Eq.{bytes_eq-Decides}
use Rattle.clap.specs.declared.builder.action.ArgAction.TheVariants.{Count, Set}
use Rattle.clap.specs.declared.builder.arg.Arg.{Arg}
use Rattle.clap.specs.declared.builder.command.Command.{Command}
use Rattle.clap.specs.declared.builder.command.Command.TheViews.{out-Command}
use Rattle.clap.specs.declared.builder.value_parser.Reading.{Reading}
use Rattle.clap.specs.declared.builder.value_parser.ValueParser.{ValueParser}
use Rattle.clap.specs.declared.parser.matches.ArgMatches.{ArgMatches}
use Rattle.clap.specs.declared.parser.matches.MatchedArg.{MatchedArg}
use Rattle.clap.specs.Built.{IsAuto, IsParsedFrom, IsPlain, SameRules}
use Rattle.clap.specs.Facts.{Entry, EntryPasses, HasIn, HasReading, PassesArg, ValuesPass, WantsDefault, args_of, groups_of, least_values, parser_of, parser_of_value}
use Rattle.clap.specs.Matches.{found_of, matched_of, one_text}
use Rattle.clap.specs.Values.{Accepts, read_as, reading_of}
use Rattle.clap.proofs.CallerLemmas.{default_present, entry_by_id, same_rules_by_id}

-- an entry of an id that some entry has
find_entry : (xs : List Entry) (id : List ℕ) → HasIn xs id → is_some (find (λ e. bytes_eq e.0.now id) xs) ≡ true
find_entry [] id h = absurd (omega (arith, h.1))
find_entry (x ∷ xs) id h = go (bytes_eq x.0.now id) refl (find_entry xs id)
  where
    rest : (HasIn xs id → is_some (find (λ e. bytes_eq e.0.now id) xs) ≡ true)
        → (i : ℕ) → i < length (x ∷ xs) → ((d : Entry) → bytes_eq (slice_index_or (x ∷ xs) i d).0.now id ≡ true)
        → bytes_eq x.0.now id ≡ false → is_some (find (λ e. bytes_eq e.0.now id) xs) ≡ true
    rest later zero lt at other = let yes : bytes_eq x.0.now id ≡ true = at x in cc
    rest later (suc i) lt at other = later (i, omega arith, at)

    go : (b : Bool) → bytes_eq x.0.now id ≡ b → (HasIn xs id → is_some (find (λ e. bytes_eq e.0.now id) xs) ≡ true)
        → is_some (find (λ e. bytes_eq e.0.now id) (x ∷ xs)) ≡ true
    go true e later = rw e refl
    go false e later = rw e (rest later h.0 h.1 h.2 e)

-- the argument with this default has an entry
default_entry : (old : Command) (m : ArgMatches) → IsParsedFrom old m → (out-Command old).has_globals ≡ false
    → (k : ℕ) (d : Arg) → k < length (args_of old) → WantsDefault (slice_index_or (args_of old) k d)
    → is_some (matched_of (found_of m) (slice_index_or (args_of old) k d).id.now) ≡ true
default_entry old m p globals k d lt wants =
    mapped _ (find_entry (found_of m).entries.items (slice_index_or (args_of old) k d).id.now (default_present old m p globals k d lt wants))
  where
    mapped : (o : Option Entry) → is_some o ≡ true → is_some (option_map (λ e. e.1) o) ≡ true
    mapped None h = h
    mapped (Some e) h = refl

-- an argument's rules, where it is the one of its id
pub record IsOwn (old : Command) (k : ℕ) (a : Arg) : Type 0 where
  pub low : k < length (args_of old)
  pub at : slice_index_or (args_of old) k a ≡ a
  pub unique : (j : ℕ) (e : Arg) → j < length (args_of old) → bytes_eq (slice_index_or (args_of old) j e).id.now a.id.now ≡ true → j ≡ k
  pub named : a.id.now ≡ [] → ⊥
  pub made : IsAuto a → ⊥

-- what an argument with this id has in the command that was built
own_rules : (old : Command) (m : ArgMatches) (p : IsParsedFrom old m) (k : ℕ) (a : Arg) → IsOwn old k a
    → (j : ℕ) (x : Arg) → j < length (args_of p.built) → slice_index_or (args_of p.built) j x ≡ x
    → bytes_eq x.id.now a.id.now ≡ true → SameRules a x
own_rules old m p k a own j x high at same =
    subst (λ (w : Arg). SameRules w x) own.at
    (same_rules_by_id old m p k a own.low
    (λ i e low eq. own.unique i e low (subst (λ (w : Arg). bytes_eq (slice_index_or (args_of old) i e).id.now w.id.now ≡ true) own.at eq))
    (λ auto. own.made (subst IsAuto own.at auto))
    j x high at (subst (λ (w : Arg). bytes_eq x.id.now w.id.now ≡ true) (sym own.at) same))

-- a value that passed an argument with this id passed this parser
own_passes : (old : Command) (m : ArgMatches) (p : IsParsedFrom old m) (k : ℕ) (a : Arg) → IsOwn old k a → (q : ValueParser) → a.value_parser ≡ Some q
    → (t : List ℕ) → PassesArg p.built a.id.now t → Accepts a.ignore_case q t
own_passes old m p k a own q parser t pass =
    let y = pass.1 in
    let same = own_rules old m p k a own pass.0 y pass.2 pass.3 pass.4.0 in
    let is_q : parser_of y ≡ q = ap parser_of_value (same.parser q parser) in
    let as_q : Accepts y.ignore_case q t = subst (λ (w : ValueParser). Accepts y.ignore_case w t) is_q pass.4.1 in
    subst (λ (b : Bool). Accepts b q t) same.ignore_case as_q

own_reading : (old : Command) (m : ArgMatches) (p : IsParsedFrom old m) (k : ℕ) (a : Arg) → IsOwn old k a → (q : ValueParser) → a.value_parser ≡ Some q
    → (r : Reading) → HasReading p.built a.id.now r → r ≡ reading_of q
own_reading old m p k a own q parser r any =
    let same = own_rules old m p k a own any.0 any.1 any.2 any.3 any.4.0 in
    sym any.4.1 ∙ ap reading_of (ap parser_of_value (same.parser q parser))

-- the first of some values that all pass
first_value : (P : List ℕ → Type 0) (how : Reading) (vs : List (Bor (List ℕ))) → 0 < length vs → All (λ v. P v.now) vs
    → (t : List ℕ) × (option_map (λ s. read_as how s.now) (slice_get vs 0) ≡ Some (read_as how t)) × P t
first_value P how [] lt h = absurd (omega arith)
first_value P how (v ∷ vs) lt h = (v.now, refl, All-get_or (λ w. P w.now) (v ∷ vs) 0 v (omega arith) h)

-- the option takes one value, and has a default under no condition
pub record TakesOne (a : Arg) : Type 0 where
  pub action : a.action ≡ Some Set
  pub whole : a.val_delim ≡ None
  pub one : 1 ≤ least_values a
  pub default : WantsDefault a

-- the entry of such an option is no group's, where the command has none
no_group_entry : (c : Command) (a : Arg) (e : Entry) → groups_of c ≡ [] → (a.id.now ≡ [] → ⊥) → e.0.now ≡ a.id.now → EntryPasses c e
    → e.1.is_group ≡ true → ⊥
no_group_entry c a e no_groups named key pass group = elim (pass.3 group) [
  | inl empty ↦ named (sym key ∙ empty)
  | inr some ↦
      let bad : 0 < 0 = rw no_groups at some in
      absurd (omega arith)
]

-- and holds values
entry_filled : (old : Command) (m : ArgMatches) (p : IsParsedFrom old m) (k : ℕ) (a : Arg) → IsOwn old k a → TakesOne a → groups_of p.built ≡ []
    → (e : Entry) → e.0.now ≡ a.id.now → EntryPasses p.built e → 0 < length e.1.vals.items
entry_filled old m p k a own takes no_groups e key pass = elim pass.1 [
  | inl group ↦ absurd (no_group_entry p.built a e no_groups own.named key pass group.0)
  | inr (inl some) ↦ some
  | inr (inr (inl counts)) ↦
      let any = counts.1 in
      let same = own_rules old m p k a own any.0 any.1 any.2 any.3 (rw key at any.4.0) in
      let is_set : any.1.action ≡ Some Set = same.action Set takes.action in
      let bad : Set ≡ Count = rw is_set at any.4.1 in
      cc
  | inr (inr (inr none)) ↦
      let same = own_rules old m p k a own none.0 none.1 none.2 none.3 (rw key at none.4.0) in
      elim none.4.1 [
        | inl least ↦
            let one = same.least takes.action takes.one in
            absurd (omega arith)
        | inr cut ↦
            let bad : false ≡ true = rw (same.val_delim, takes.whole) at cut in
            cc
      ]
]

-- what such an entry gives
entry_reads : (old : Command) (m : ArgMatches) (p : IsParsedFrom old m) (k : ℕ) (a : Arg) → IsOwn old k a → TakesOne a → groups_of p.built ≡ []
    → (q : ValueParser) → a.value_parser ≡ Some q → (e : Entry) → e.0.now ≡ a.id.now → EntryPasses p.built e
    → (t : List ℕ) × (option_map (λ s. read_as e.1.reading s.now) (slice_get e.1.vals.items 0) ≡ Some (read_as (reading_of q) t)) × Accepts a.ignore_case q t
entry_reads old m p k a own takes no_groups q parser e key pass =
    let no_group = no_group_entry p.built a e no_groups own.named key pass in
    let passed : All (λ v. PassesArg p.built a.id.now v.now) e.1.vals.items = elim pass.0 [
      | inl group ↦ absurd (no_group group)
      | inr all ↦ subst (λ (w : List ℕ). All (λ v. PassesArg p.built w v.now) e.1.vals.items) key all
    ] in
    let reading : e.1.reading ≡ reading_of q = elim pass.4 [
      | inl group ↦ absurd (no_group group)
      | inr has ↦ own_reading old m p k a own q parser e.1.reading (subst (λ (w : List ℕ). HasReading p.built w e.1.reading) key has)
    ] in
    let first = first_value (PassesArg p.built a.id.now) e.1.reading e.1.vals.items (entry_filled old m p k a own takes no_groups e key pass) passed in
    (first.0, first.1 ∙ ap (λ (r : Reading). Some (read_as r first.0)) reading, own_passes old m p k a own q parser first.0 first.2)

-- a parse finds a text for such an option, which its parser takes
pub option_reads : (old : Command) (m : ArgMatches) (p : IsParsedFrom old m) → IsPlain old → (out-Command old).has_globals ≡ false
    → (k : ℕ) (a : Arg) → IsOwn old k a → TakesOne a → (q : ValueParser) → a.value_parser ≡ Some q
    → (t : List ℕ) × (one_text (found_of m) a.id.now ≡ Some (read_as (reading_of q) t)) × Accepts a.ignore_case q t
option_reads old m p plain globals k a own takes q parser =
    let has = subst (λ (w : Arg). is_some (matched_of (found_of m) w.id.now) ≡ true) own.at
    (default_entry old m p globals k a own.low (subst WantsDefault (sym own.at) takes.default)) in
    go (matched_of (found_of m) a.id.now) refl has (p.parsed (p.from.globals ∙ globals)).values
  where
    step : (x : MatchedArg) → matched_of (found_of m) a.id.now ≡ Some x
        → (e : Entry) × (e.1 ≡ x) × (bytes_eq e.0.now a.id.now ≡ true) × EntryPasses p.built e
        → (t : List ℕ) × (one_text (found_of m) a.id.now ≡ Some (read_as (reading_of q) t)) × Accepts a.ignore_case q t
    step x found got =
        let key : got.0.0.now ≡ a.id.now = (bytes_eq-Decides got.0.0.now a.id.now).0 got.2 in
        let read = entry_reads old m p k a own takes (p.from.plain plain).1 q parser got.0 key got.3 in
        (read.0, rw (found, ← got.1) read.1, read.2)

    go : (o : Option MatchedArg) → matched_of (found_of m) a.id.now ≡ o → is_some (matched_of (found_of m) a.id.now) ≡ true → ValuesPass p.built (found_of m)
        → (t : List ℕ) × (one_text (found_of m) a.id.now ≡ Some (read_as (reading_of q) t)) × Accepts a.ignore_case q t
    go None found has values =
        let bad : false ≡ true = rw found at has in
        cc
    go (Some x) found has values = step x found (entry_by_id (EntryPasses p.built) (found_of m).entries.items a.id.now x values found)
