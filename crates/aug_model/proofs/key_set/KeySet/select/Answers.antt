use Rattle.std.proofs.Common.{◌≡◌, ℕ, List, Option, Some, None, option_copied, option_map, slice_get, Bor, refl, sym, ap, ◌∙◌}
use Rattle.std.specs.Slice.{IsItemAt}
use Rattle.std.proofs.lemmas.Option.{slice_get_past, slice_get_read, slice_get-map}
use Rattle.aug_model.proofs.Boundaries.{select_of-rising}
use Rattle.aug_model.proofs.key_set.KeySet.select.Goals as goal

-- what `get` found, copied
option_copied-item : (xs : List (ℕ × ℕ)) (i : ℕ) (r : Option (Bor (ℕ × ℕ))) → IsItemAt xs i r → option_copied r ≡ slice_get xs i
option_copied-item xs i None at = sym (slice_get_past xs i at.3)
option_copied-item xs i (Some x) at = sym (slice_get_read xs _ i x.now refl at.3.0 at.1)

pub returns : goal.returns
returns c =
    rw (← c.self.view_is, select_of-rising _ c.self.invariant.set.rising c.args.i, slice_get-map (λ (p : ℕ × ℕ). p.0) c.self.inside.members.items c.args.i, ← c.deref.ensures.value)
    (c.key_of.ensures ∙ ap (option_map (λ p. p.0)) (option_copied-item _ _ c.get.result c.get.ensures.lookup))
