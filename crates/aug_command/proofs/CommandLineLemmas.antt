-- What a parse of the program's words finds.
use Rattle.std.proofs.Common.{zero, suc, ◌≡◌, ◌∙◌, ◌<◌, ◌≤◌, ap, ℕ, true, List, [], ◌∷◌, length, map, Option, Some, refl, sym, subst, inl, inr, arith, codes, slice_index, ◌^◌, ◌⊎◌}
use Rattle.std.specs.Prelude.{pos, IsSome, Result, is_some, option_map, unwrap_or}
use Rattle.std.specs.Str.Parse.{ExplainsUnsignedError, HasUnsignedDigitsIfOk, ParsesUnsigned, digits_value, without_leading_plus}
use Rattle.std.specs.List.{slice_index_or}
use Rattle.std.specs.Str.{bytes_eq}
use Rattle.std.proofs.lemmas.List.{length-map}
use Rattle.clap.specs.declared.builder.arg.Arg.{Arg}
use Rattle.clap.specs.declared.builder.command.Command.{Command}
use Rattle.clap.specs.declared.builder.value_parser.ValueParser.TheVariants.{Signed}
use Rattle.clap.specs.declared.parser.matches.ArgMatches.{ArgMatches}
use Rattle.clap.specs.Built.{IsParsedFrom, IsPlain}
use Rattle.clap.specs.Facts.{args_of, least_values, unwrap_or_range}
use Rattle.clap.specs.Simple.{IsSimple, IsSimpleArg, is_ready, is_ready_leaf}
use Rattle.clap.specs.Faults.{has_free_rules}
use Rattle.std.specs.List.{list_all}
use Rattle.clap.specs.Words.{App, IsAmong, ReadsOne, Row, Rule, Text, app_of, fault_of, found_of, is_simple, items_of, matches_of, new_rule, one_text, rows_of, rule_of, without_minus}
use Rattle.clap.specs.declared.error.kind.ErrorKind.{ErrorKind}
use Rattle.clap.specs.declared.error.kind.ErrorKind.TheVariants as kind
use Rattle.std.specs.declared.num.ParseIntError.{ParseIntError}
use Rattle.aug_command.specs.declared.command_line.stop.Stop.{Stop}
use Rattle.aug_command.specs.declared.command_line.stop.Stop.TheVariants as stop
use Rattle.clap.specs.declared.parser.matches.Found.{Found}
use Rattle.clap.proofs.CallerReads.{signed_reads}
use Rattle.clap.proofs.FaultLemmas.{free_args}
use Rattle.clap.proofs.OnLiterals.{clap_on_literals}
use Rattle.clap.proofs.SimpleLemmas.{ready_simple, simple_groups}
use Rattle.clap.proofs.WalkLemmas.{one_text-rows}
use Rattle.aug_command.proofs.OptionReads.{IsOwn, TakesOne, option_reads}
use Rattle.aug_command.specs.CommandLine.{AsksTooMuch, IsStopFor, number_given, number_rule, program}
use Rattle.aug_command.specs.inside.FoundNumbers.{FindsNumber, FindsNumbers}
use Rattle.aug_command.specs.inside.Stops.{StopsReading, TellsOf}

program_is_ready : is_ready program.top ≡ true
unfolding clap_on_literals
program_is_ready = refl

-- the program's command is simple and excludes nothing
command_simple : (c : Command) → app_of c ≡ program → IsSimple c
command_simple c is = ready_simple c (ap (λ (a : App). is_ready a.top) is ∙ program_is_ready) (ap (λ (a : App). list_all is_ready_leaf a.subs) is)

command_plain : (c : Command) → app_of c ≡ program → IsPlain c
command_plain c is =
    let simple = command_simple c is in
    let free = free_args c simple (ap (λ (a : App). has_free_rules a.top) is) in
    let groups = simple_groups c (ap (λ (a : App). list_all (λ r. r.is_simple) a.top.rules) is) in (
      λ k d lt. ((free k d lt).exclusive, (free k d lt).conflicts, (free k d lt).overrides, groups k d lt),
      simple.groups,
    )

-- the rules of the arguments, place by place
abbrev rules : List Rule
rules = program.top.rules

-- the rule of the word without `--`
abbrev file_rule : Rule
file_rule = new_rule (codes "FILE")

command_rules : (c : Command) → app_of c ≡ program → map rule_of (args_of c) ≡ rules
command_rules c is = ap (λ (a : App). a.top.rules) is

rule_at : (xs : List Arg) (j : ℕ) (e : Arg) (r : Rule) → j < length xs → rule_of (slice_index_or xs j e) ≡ slice_index_or (map rule_of xs) j r
rule_at [] j e r lt = absurd (omega arith)
rule_at (x ∷ xs) zero e r lt = refl
rule_at (x ∷ xs) (suc j) e r lt = rule_at xs j e r (omega arith)

count_of : (c : Command) → app_of c ≡ program → length (args_of c) ≡ 4
count_of c is = sym (length-map (args_of c) rule_of) ∙ ap length (command_rules c is)

-- the ids are distinct
only_bits : (j : ℕ) → j < 4 → bytes_eq (slice_index_or rules j file_rule).id (codes "bits") ≡ true → j ≡ 0
only_bits zero lt same = refl
only_bits (suc zero) lt same = cc
only_bits (suc (suc zero)) lt same = cc
only_bits (suc (suc (suc zero))) lt same = cc
only_bits (suc (suc (suc (suc j)))) lt same = absurd (omega arith)

only_workers : (j : ℕ) → j < 4 → bytes_eq (slice_index_or rules j file_rule).id (codes "workers") ≡ true → j ≡ 1
only_workers zero lt same = cc
only_workers (suc zero) lt same = refl
only_workers (suc (suc zero)) lt same = cc
only_workers (suc (suc (suc zero))) lt same = cc
only_workers (suc (suc (suc (suc j)))) lt same = absurd (omega arith)

only_updates : (j : ℕ) → j < 4 → bytes_eq (slice_index_or rules j file_rule).id (codes "updates") ≡ true → j ≡ 2
only_updates zero lt same = cc
only_updates (suc zero) lt same = cc
only_updates (suc (suc zero)) lt same = refl
only_updates (suc (suc (suc zero))) lt same = cc
only_updates (suc (suc (suc (suc j)))) lt same = absurd (omega arith)

-- an element of a list
pick : (xs : List Arg) (k : ℕ) → k < length xs → (a : Arg) × (slice_index_or xs k a ≡ a)
pick [] k lt = absurd (omega arith)
pick (x ∷ xs) zero lt = (x, refl)
pick (x ∷ xs) (suc k) lt = pick xs k (omega arith)

-- the argument at a place has the rule at that place
command_rule : (c : Command) → app_of c ≡ program → (k : ℕ) (e : Arg) → k < length (args_of c) → rule_of (slice_index_or (args_of c) k e) ≡ slice_index_or rules k file_rule
command_rule c is k e lt = rule_at (args_of c) k e file_rule lt ∙ ap (λ (l : List Rule). slice_index_or l k file_rule) (command_rules c is)

-- a number is found for the option at a place
number_found : (c : Command) (m : ArgMatches) → IsParsedFrom c m → app_of c ≡ program
    → (k : ℕ) (name : Text) (most : ℕ) (default : Text) → k < 4 → slice_index_or rules k file_rule ≡ number_rule name most default
    → ((j : ℕ) → j < 4 → bytes_eq (slice_index_or rules j file_rule).id name ≡ true → j ≡ k)
    → (name ≡ [] → ⊥) → (name ≡ codes "help" → ⊥) → (name ≡ codes "version" → ⊥) → FindsNumber (found_of m) name most
number_found c m p is k name most default lt at only named help version =
    let four = count_of c is in
    let low : k < length (args_of c) = omega arith in
    let picked = pick (args_of c) k low in
    let a = picked.0 in
    let rule : rule_of a ≡ number_rule name most default = ap rule_of (sym picked.1) ∙ command_rule c is k a low ∙ at in
    let id : a.id.now ≡ name = ap (λ (r : Rule). r.id) rule in
    let simple = subst IsSimpleArg picked.1 ((command_simple c is).args k a low) in
    let own : IsOwn c k a = record {
      low = low;
      at = picked.1;
      unique = λ j e high same.
          let same_id : (slice_index_or (args_of c) j e).id.now ≡ (slice_index_or rules j file_rule).id = ap (λ (r : Rule). r.id) (command_rule c is j e high) in
          only j (omega arith) (subst (λ (t : Text). bytes_eq t name ≡ true) same_id (subst (λ (t : Text). bytes_eq (slice_index_or (args_of c) j e).id.now t ≡ true) id same));
      named = λ empty. named (sym id ∙ empty);
      made = λ auto. elim auto [ inl h ↦ help (sym id ∙ h) | inr h ↦ version (sym id ∙ h) ];
    } in
    let least : least_values a ≡ 1 = ap (λ (r : Rule). (unwrap_or_range r.range).start_inclusive) rule in
    let one_default : length (items_of a.default_vals) ≡ 1 = sym (length-map (items_of a.default_vals) (λ s. s.now)) ∙ ap (λ (r : Rule). length r.defaults) rule in
    let takes : TakesOne a = record {
      action = ap (λ (r : Rule). r.action) rule;
      whole = simple.delimiter;
      one = omega arith;
      default = (simple.default_ifs, omega arith);
    } in
    let read = option_reads c m p (command_plain c is) (command_simple c is).globals k a own takes (Signed (pos 1) (pos most)) (ap (λ (r : Rule). r.parser) rule) in
    record {
      text = read.0;
      read = subst (λ (t : Text). one_text (found_of m) t ≡ Some (without_minus read.0)) id read.1;
      in_range = read.2;
    }

-- texts with other first bytes are two
others : (s t : Text) → (slice_index s 0 ≡ slice_index t 0 → ⊥) → s ≡ t → ⊥
others s t differ same = differ (ap (λ (l : Text). slice_index l 0) same)

pub numbers_found : (c : Command) (m : ArgMatches) → IsParsedFrom c m → app_of c ≡ program → FindsNumbers (found_of m)
numbers_found c m p is = record {
  bits = number_found c m p is 0 (codes "bits") 16 (codes "4") (omega arith) refl only_bits
      (others _ _ (λ e. let bad : 98 ≡ 0 = e in absurd (omega arith)))
      (others _ _ (λ e. let bad : 98 ≡ 104 = e in absurd (omega arith)))
      (others _ _ (λ e. let bad : 98 ≡ 118 = e in absurd (omega arith)));
  workers = number_found c m p is 1 (codes "workers") 64 (codes "1") (omega arith) refl only_workers
      (others _ _ (λ e. let bad : 119 ≡ 0 = e in absurd (omega arith)))
      (others _ _ (λ e. let bad : 119 ≡ 104 = e in absurd (omega arith)))
      (others _ _ (λ e. let bad : 119 ≡ 118 = e in absurd (omega arith)));
  updates = number_found c m p is 2 (codes "updates") 65536 (codes "64") (omega arith) refl only_updates
      (others _ _ (λ e. let bad : 117 ≡ 0 = e in absurd (omega arith)))
      (others _ _ (λ e. let bad : 117 ≡ 104 = e in absurd (omega arith)))
      (others _ _ (λ e. let bad : 117 ≡ 118 = e in absurd (omega arith)));
}

-- the number that was found for an option
pub record IsNumberFound (name : Text) (found : Found) (most value : ℕ) : Type 0 where
  pub least : 1 ≤ value
  pub greatest : value ≤ most
  pub number : number_given name (rows_of found) ≡ Some value

-- what `u32::from_str` gives
abbrev pub Gives : List ℕ → Result ℕ ParseIntError → Type 0
Gives text r = ParsesUnsigned 32 10 text r × ExplainsUnsignedError 10 text r × HasUnsignedDigitsIfOk text r

-- what `get_one` gives where it reads the text of an option
abbrev pub Reads : Text → Found → Option ℕ → Type 0
Reads name found r = (t : List ℕ) → one_text found name ≡ Some t → ReadsOne Gives t r

number_read : (name : Text) (found : Found) (most : ℕ) (r : Option ℕ) → FindsNumber found name most → Reads name found r → most < 2 ^ 32
    → (value : ℕ) × (r ≡ Some value) × IsNumberFound name found most value
number_read name found most r finds reads fits =
    let one = reads (without_minus finds.text) finds.read in
    let got = signed_reads ParseIntError Gives 32 1 most finds.text r one (λ u x gives. gives.0) fits finds.in_range in
    let value : got.0 ≡ digits_value 10 (without_leading_plus (without_minus finds.text)) = (subst (ReadsOne Gives (without_minus finds.text)) got.1 one).0.1 in (
      got.0,
      got.1,
      record {
        least = got.2;
        greatest = got.3;
        number = ap (option_map (λ t. digits_value 10 (without_leading_plus t))) (sym (one_text-rows found name) ∙ finds.read) ∙ ap (λ (n : ℕ). Some n) (sym value);
      },
    )

-- `get_one` gives a number
pub number_some : (name : Text) (found : Found) (most : ℕ) (r : Option ℕ) → FindsNumber found name most → Reads name found r → most < 2 ^ 32 → IsSome r
number_some name found most r finds reads fits = ap is_some (number_read name found most r finds reads fits).1

-- and that is the one that was found
pub number_is : (name : Text) (found : Found) (most : ℕ) (r : Option ℕ) → FindsNumber found name most → Reads name found r → most < 2 ^ 32
    → (value : ℕ) → r ≡ Some value → IsNumberFound name found most value
number_is name found most r finds reads fits value is =
    let read = number_read name found most r finds reads fits in
    let same : Some read.0 ≡ Some value = sym read.1 ∙ is in
    subst (IsNumberFound name found most) (ap (λ (o : Option ℕ). unwrap_or o 0) same) read.2

-- what an answer to an error of the parser is to the words
pub tells_of_words : (words : List Text) (k : ErrorKind) (s : Stop) → (k ≡ kind.OutOfMemory) ⊎ IsAmong k (fault_of program words) → TellsOf k s
    → (k ≡ kind.OutOfMemory → s ≡ stop.OutOfMemory) → IsStopFor words s
tells_of_words words k (stop.Help text) (inl memory) told out = let bad : stop.Help text ≡ stop.OutOfMemory = out memory in cc
tells_of_words words k (stop.Help text) (inr among) told out = subst (λ (x : ErrorKind). IsAmong x (fault_of program words)) told among
tells_of_words words k (stop.Usage text) (inl memory) told out = let bad : stop.Usage text ≡ stop.OutOfMemory = out memory in cc
tells_of_words words k (stop.Usage text) (inr among) told out = (k, among, told)
tells_of_words words k stop.TooLarge of told out = absurd told
tells_of_words words k stop.OutOfMemory of told out = tt

-- and what an answer to what the parser found is
pub stops_words : (words : List Text) (rows : List Row) (s : Stop) → fault_of program words ≡ [] → rows ≡ matches_of program words → StopsReading rows s
    → IsStopFor words s
stops_words words rows (stop.Help text) right found none = absurd none
stops_words words rows (stop.Usage text) right found none = absurd none
stops_words words rows stop.TooLarge right found asks = (right, subst AsksTooMuch found asks)
stops_words words rows stop.OutOfMemory right found _ = tt
