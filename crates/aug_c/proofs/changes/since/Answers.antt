use Rattle.std.proofs.Common.{◌≡◌, length, subst, sym, arith}
use Rattle.std.specs.Prelude.{ℤ}
use Rattle.aug_c.specs.ChangeCalls.{ListsPage, changes_since}
use Rattle.aug_c.proofs.Calls.{same_code}
use Rattle.aug_c.proofs.changes.since.Goals as goal

pub returns : goal.returns
returns c =
    let same : length c.args.weights.now ≡ length c.args.keys.now = omega (arith, c.if-weights-keys.false) in
    let rising = c.is_rising.ensures.0 c.if-not-is_rising.false in record {
      bad_length = λ other. absurd (other same);
      bad_key = λ _ falls. absurd (falls rising);
      lists = λ _ _. subst (λ (z : ℤ). ListsPage (changes_since c.args.keys.now c.args.weights.now c.args.look.now c.args.from) c.args.out.now c.list_since.new.out c.args.look.now c.list_since.new.look z)
          (sym (same_code c.list_since.result c.list_since.type_inv)) c.list_since.ensures;
    }
