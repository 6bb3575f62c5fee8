-- What members come to, rising or falling: at a leaf, and where the order is known.
use Rattle.std.proofs.Common.{◌≡◌, ℕ, List, [], ◌∷◌, Some, refl, sym, subst}
use Rattle.aug_model.specs.Queries.{rank_of}
use Rattle.aug_query.specs.declared.descent.neighbours.Order.{Order}
use Rattle.aug_query.specs.declared.descent.neighbours.Order.TheVariants.{Rising, Falling}
use Rattle.aug_query.specs.inside.InOrder.{head_of, start_of, start_at}
use Rattle.aug_query.proofs.Nodes.{leaf_first, leaf_end}

-- a single key comes first
pub head_alone : (order : Order) (key : ℕ) → head_of order (key ∷ []) ≡ Some key
head_alone Rising key = refl
head_alone Falling key = refl

-- the keys of a leaf begin where its key does
pub leaf_start : (order : Order) (level place : ℕ) → level ≡ 0 → start_of order level place ≡ start_at order place
leaf_start Rising = leaf_first
leaf_start Falling = leaf_end

-- the same comes first in two lists, where it does in the order that is asked for
pub same_so : {order o : Order} → order ≡ o → (xs ys : List ℕ) → head_of o xs ≡ head_of o ys → head_of order xs ≡ head_of order ys
same_so e xs ys h = subst (λ (z : Order). head_of z xs ≡ head_of z ys) (sym e) h

-- and as many members lie before both nodes' keys
pub start_so : {order o : Order} → order ≡ o → (keys : List ℕ) (l p m q : ℕ) → rank_of keys (start_of o l p) ≡ rank_of keys (start_of o m q) → rank_of keys (start_of order l p) ≡ rank_of keys (start_of order m q)
start_so e keys l p m q h = subst (λ (z : Order). rank_of keys (start_of z l p) ≡ rank_of keys (start_of z m q)) (sym e) h
