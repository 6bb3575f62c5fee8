use Rattle.std.proofs.Common.{◌≡◌, ◌^◌, ℕ, ap, refl, sym, subst, arith}
use Rattle.aug_core.specs.Layout.{IsLayout}
use Rattle.aug_core.specs.Places.{shape_of, own_records}
use Rattle.aug_model.specs.Keys.{SetFacts}
use Rattle.aug_trie_tests.proofs.renewing.begun.Goals as goal

own : own_records 4 16 4 ≡ 15
unfolding own_records
own = refl

-- a table of 4 bits with two lanes of two updates each can be laid out
laid_out : IsLayout (shape_of 4 2 2 16)
laid_out = record { bits = (omega arith, omega arith); workers = (omega arith, omega arith); updates = (omega arith, omega arith); words = omega (arith, own) }

pub begin_for_all-requires-clause-laid_out : goal.begin_for_all-requires-clause-laid_out
begin_for_all-requires-clause-laid_out c = let bits : c.in_ok-nothing.nothing.bits ≡ 4 = ap (λ (s : SetFacts). s.bits) c.in_ok-nothing.ensures.empty in subst (λ (z : ℕ). IsLayout (shape_of z 2 2 (2 ^ z))) (sym bits) laid_out
