-- What goes out for a script whose bytes are written out: the definitions compute it.
use Rattle.std.proofs.Common.{◌≡◌, ◌∙◌, ℕ, List, [], ◌∷◌, ◌++◌, All, Ok, Option, Some, ap, arith, codes, length, length-append, refl, subst, sym, take}
use Rattle.std.proofs.lemmas.List.{append-nil, take_all}
use Rattle.std.proofs.lemmas.List.Elements.{All-cons, All-nil}
use Rattle.aug_script.specs.Devices.{SinkState}
use Rattle.aug_script.specs.Limits.{Bounds, IsBounds}
use Rattle.aug_script.specs.Script.{rounds_of}
use Rattle.aug_script.specs.declared.row.Row.{Row}
use Rattle.aug_script.specs.declared.script_round.ScriptRound.{ScriptRound}
use Rattle.aug_script.specs.declared.verb.Verb.TheVariants as verb
use Rattle.aug_script.proofs.OnLiterals.{script_on_literals}
use Rattle.aug_report.specs.InTurn.{OfOneLane, reports_of}
use Rattle.aug_report.specs.Theorems.{ScriptHasOneList}
use Rattle.aug_run.specs.Runs.{RunsWhole, texts_of}

abbrev known_limits : Bounds
known_limits = record { bits = 4; workers = 1; updates = 64 }

abbrev known_script : List ℕ
known_script = codes "0,insert,5\n0,look\n0,size\n"

abbrev insert_row : Row
insert_row = record { row = 1; lane = 0; verb = verb.Insert 5 }

abbrev look_row : Row
look_row = record { row = 2; lane = 0; verb = verb.Look }

abbrev size_row : Row
size_row = record { row = 3; lane = 0; verb = verb.Size }

abbrev known_rows : List Row
known_rows = insert_row ∷ look_row ∷ size_row ∷ []

abbrev known_rounds : List ScriptRound
known_rounds = record { bits = 4; rows = known_rows } ∷ []

abbrev known_text : List ℕ
known_text = codes "1 0 insert 5 = new\n1 0 look = ok\n1 0 size = 1\n1 end size=1 in=1 out=0\n"

rounds_are : rounds_of known_limits known_script ≡ Ok known_rounds
unfolding script_on_literals
rounds_are = refl

text_is : texts_of (reports_of 1 [] known_rounds) ≡ known_text
unfolding script_on_literals
text_is = refl

one_lane : All (OfOneLane 1) known_rounds
one_lane =
    let Is : Row → Type 0 = λ row. row.lane ≡ 0 in
    let last : All Is (size_row ∷ []) = All-cons Is size_row [] refl (All-nil Is) in
    let later : All Is (look_row ∷ size_row ∷ []) = All-cons Is look_row (size_row ∷ []) refl last in
    let all : All Is known_rows = All-cons Is insert_row (look_row ∷ size_row ∷ []) refl later in
    All-cons (OfOneLane 1) (record { bits = 4; rows = known_rows }) [] (0, omega arith, all) (All-nil (OfOneLane 1))

abbrev sink : Option (List ℕ) → ℕ → ℕ → SinkState
sink bytes finishes faults = record { bytes = bytes; finishes = finishes; faults = faults }

-- a run of this script that went well put out this text
pub known_output : ScriptHasOneList → IsBounds known_limits → (limits : Bounds) (output : List ℕ) (finishes finishes' faults faults' : ℕ) → limits ≡ known_limits
    → RunsWhole limits (sink (Some []) finishes faults) (sink (Some output) finishes' faults') known_script → output ≡ known_text
known_output one_list bounds limits output finishes finishes' faults faults' is ran =
    let runs = subst (λ (l : Bounds). RunsWhole l (sink (Some []) finishes faults) (sink (Some output) finishes' faults') known_script) is ran in
    let read : Ok runs.0 ≡ Ok known_rounds = sym runs.1.1 ∙ rounds_are in
    let same : runs.0 ≡ known_rounds = cc in
    let rounds : take (length (runs.2 ++ [])) runs.0 ≡ known_rounds = take_all (length (runs.2 ++ [])) runs.0 (omega (arith, runs.4, length-append runs.2 [])) ∙ same in
    let may_have = rw (rounds, append-nil runs.2) at runs.3.may_have in
    let reports : runs.2 ≡ reports_of 1 [] known_rounds = one_list known_limits known_script known_rounds 1 runs.2 bounds rounds_are one_lane may_have in
    runs.3.wrote.bytes ∙ ap (λ reports. texts_of reports) reports ∙ text_is
