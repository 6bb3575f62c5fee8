-- Views that looked.
use Rattle.std.proofs.Common.{◌≡◌, ℕ, ◌+◌, ◌≤◌, List, [], ◌∷◌, ◌++◌, length-append, append_assoc, sym, ap, ◌∙◌, arith}
use Rattle.std.proofs.lemmas.List.{append-nil}
use Rattle.aug_core.proofs.Clients.{guards_same, says_same}
use Rattle.aug_core.specs.Effects.{GuardsRecord, Says, stepping}
use Rattle.aug_core.specs.declared.step.StepTaken.{StepTaken}
use Rattle.aug_core.specs.declared.view.SeatView.{SeatView}
use Rattle.aug_trie.specs.inside.Goes.{Looks}

pub looks_none : (most : ℕ) (v : SeatView) → Looks most v v
looks_none most v = record { more = []; is = ap (λ (z : List StepTaken). record v { steps = z }) (sym (append-nil v.steps)); few = omega arith }

pub looks_on : (a b c : ℕ) (u v w : SeatView) → a + b ≤ c → Looks a u v → Looks b v w → Looks c u w
looks_on a b c u v w fits x y = let xf = x.few in let yf = y.few in record {
  more = x.more ++ y.more;
  is = y.is ∙ (λ i. record (x.is i) { steps = (x.is i).steps ++ y.more }) ∙ ap (λ (z : List StepTaken). record u { steps = z }) (append_assoc u.steps x.more y.more);
  few = let long = length-append x.more y.more in omega arith;
}

pub looks_one : (v w : SeatView) (taken : StepTaken) → w ≡ stepping v taken → Looks 1 v w
looks_one v w taken is = record { more = taken ∷ []; is = is; few = omega arith }

-- what was seen of a record is so still
pub guards_looking : (most : ℕ) (v w : SeatView) (number : ℕ) → Looks most v w → GuardsRecord v number → GuardsRecord w number
guards_looking most v w number l h = guards_same v w number (ap (λ (z : SeatView). z.shape) l.is) (ap (λ (z : SeatView). z.seen) l.is) (ap (λ (z : SeatView). z.reserved) l.is) h

-- and what it says
pub says_looking : (most : ℕ) (v w : SeatView) (number field r : ℕ) → Looks most v w → Says w number field r → Says v number field r
says_looking most v w number field r l says = says_same v w number field r (ap (λ (z : SeatView). z.shape) l.is) (ap (λ (z : SeatView). z.seen) l.is) (ap (λ (z : SeatView). z.reserved) l.is) says
