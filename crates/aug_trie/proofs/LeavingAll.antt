-- The updates of a batch at their leaves, one after another.
use Rattle.std.proofs.Common.{◌≡◌, ℕ, suc, ◌+◌, ◌-◌, ◌*◌, ◌^◌, ◌<◌, ◌≤◌, List, [], ◌∷◌, ◌++◌, All, length, get_or, drop, flat_map, slice_set, length-append, length-set, append_assoc, suc-mul, sym, refl, ap, ◌∙◌, subst, ⊎_elim, arith}
use Rattle.std.proofs.lemmas.Bool.{cases_eq}
use Rattle.std.proofs.lemmas.List.{get_or_append_left, get_or_push, get_or-set_same, get_or-set_other, drop-set-lt, append-nil}
use Rattle.std.proofs.lemmas.List.Elements.{All-get_or}
use Rattle.std.proofs.lemmas.Grind.{flat_map-append}
use Rattle.std.proofs.lemmas.Nat.{mul-le}
use Rattle.aug_core.specs.Places.{Shape}
use Rattle.aug_core.specs.Counts.{changes_of}
use Rattle.aug_core.specs.Kinds.{load_leaf}
use Rattle.aug_core.specs.Effects.{MayChange, KnowsBook}
use Rattle.aug_core.specs.declared.step.StepTaken.{StepTaken}
use Rattle.aug_core.specs.declared.view.Change.{Change}
use Rattle.aug_core.specs.declared.view.SeatView.{SeatView}
use Rattle.aug_core.proofs.PrefixLemmas.{book_refl, book_trans}
use Rattle.aug_trie.specs.UpdateBatches.{BatchPart, no_part}
use Rattle.aug_trie.specs.declared.rounds.account.Account.{Account}
use Rattle.aug_model.specs.declared.outcome.Outcome.{Outcome}
use Rattle.aug_model.specs.declared.outcome.Outcome.TheVariants.{Refused}
use Rattle.aug_trie.specs.declared.updates.request.Request.{Request}
use Rattle.aug_trie.specs.declared.updates.request.Request.TheVariants.{Insert}
use Rattle.aug_trie.specs.inside.Batching.{LeftLeaf, LeftPart, LeftAll, IsAccountAfter}
use Rattle.aug_trie.specs.inside.Counted.{HasCounts, insertions_by, removals_by}
use Rattle.aug_trie.specs.inside.Goes.{Goes}
use Rattle.aug_trie.specs.inside.PassState.{IsPass}
use Rattle.aug_trie.proofs.Counters.{few_inserts, few_removals, counted_to}
use Rattle.aug_trie.proofs.Going.{goes_self, goes_after, may_change, room_on}
use Rattle.aug_trie.proofs.PassCalls.{account_after}

abbrev pub steps_in : List BatchPart → List StepTaken
steps_in parts = flat_map (λ part. part.steps) parts

abbrev pub made_in : List BatchPart → List Change
made_in parts = flat_map (λ part. part.made) parts

-- one part more
steps_more : (parts : List BatchPart) (part : BatchPart) → steps_in (parts ++ part ∷ []) ≡ steps_in parts ++ part.steps
steps_more parts part = flat_map-append (λ (p : BatchPart). p.steps) parts (part ∷ []) ∙ ap (λ (z : List StepTaken). steps_in parts ++ z) (append-nil part.steps)

made_more : (parts : List BatchPart) (part : BatchPart) → made_in (parts ++ part ∷ []) ≡ made_in parts ++ part.made
made_more parts part = flat_map-append (λ (p : BatchPart). p.made) parts (part ∷ []) ∙ ap (λ (z : List Change). made_in parts ++ z) (append-nil part.made)

module _ (f : ℕ → ℕ → List (ℕ × ℕ) → List ℕ) where
  -- the first updates were at their leaves, and are counted
  pub record LeavesLeft (keys : List ℕ) (requests : List Request) (before : List Outcome) (v : SeatView) (a : Account) (place : ℕ) (outcomes : List Outcome) (w : SeatView) (b : Account) : Type 0 where
    pub left : LeftAll f keys requests outcomes v place w
    pub long : length keys ≤ length outcomes
    pub rest : drop (length keys) outcomes ≡ drop (length keys) before
    pub account : IsAccountAfter place a b
    pub counts : HasCounts (changes_of w.held) b.inserts b.removals

  pub left_none : (keys : List ℕ) (requests : List Request) (v : SeatView) (a : Account) (outcomes : List Outcome) → KnowsBook f v → length keys ≤ length outcomes → HasCounts (changes_of v.held) a.inserts a.removals → LeavesLeft keys requests outcomes v a 0 outcomes v a
  left_none keys requests v a outcomes kn long counts = record {
    left = record {
      parts = [];
      one_each = refl;
      each = λ i none. absurd (omega (arith, none));
      steps = sym (append-nil v.steps);
      few_steps = omega arith;
      goes = goes_self f v kn;
      few_made = omega arith;
    };
    long = long;
    rest = refl;
    account = (let next : a.next ≡ a.next + 0 * a.bits = omega arith in let rest : a.left ≡ a.left - 0 = omega arith in λ i. record { leaves = a.leaves; bits = a.bits; next = next i; left = rest i; inserts = a.inserts; removals = a.removals });
    counts = counts;
  }

  -- what the next update wants at its leaf
  pub record MayLeave (key : ℕ) (w : SeatView) (b : Account) : Type 0 where
    pub low : key < 2 ^ w.shape.bits
    pub knows : KnowsBook f w
    pub may : MayChange w
    pub records : b.next + b.bits < 2 ^ 60
    pub some : 1 ≤ b.left
    pub inserts : b.inserts + 1 < 2 ^ 32
    pub removals : b.removals + 1 < 2 ^ 32

  module _ {keys : List ℕ} {requests : List Request} {before : List Outcome} {v : SeatView} {a : Account} {place : ℕ} {outcomes : List Outcome} {w : SeatView} {b : Account} (low : All (λ (k : ℕ). k < 2 ^ v.shape.bits) keys)
      (p : IsPass f v a.leaves a.bits a.next a.left) (budget : length keys ≤ a.left) (within : place < length keys) (s : LeavesLeft keys requests before v a place outcomes w b) where
    goes : Goes f 0 (made_in s.left.parts) v w
    goes = s.left.goes

    changes_long : length (changes_of w.held) ≤ length (changes_of v.held) + 2 * place
    changes_long = let long = ap (λ (z : List Change). length z) goes.changes ∙ length-append (changes_of v.held) (made_in s.left.parts) in let few = s.left.few_made in omega (arith, long, few)

    pub may_leave : MayLeave (get_or keys place 0) w b
    may_leave = let updates : w.shape.updates ≡ v.shape.updates = ap (λ (z : Shape). z.updates) goes.shaped in let long = changes_long in let all = p.budget in let most = p.knows_table.laid_out.updates.1 in
        let next : b.next ≡ a.next + place * a.bits = ap (λ (z : Account). z.next) s.account in let bits : b.bits ≡ a.bits = ap (λ (z : Account). z.bits) s.account in let rest : b.left ≡ a.left - place = ap (λ (z : Account). z.left) s.account in
        let one = suc-mul place a.bits in let le = mul-le (suc place) a.bits a.left a.bits (omega (arith, within, budget)) (omega arith) in let small = p.small in
        let ins = few_inserts (changes_of w.held) in let ci = s.counts.inserts_are in let rem = few_removals (changes_of w.held) in let cr = s.counts.removals_are in record {
          low = subst (λ (z : Shape). get_or keys place 0 < 2 ^ z.bits) (sym goes.shaped) (All-get_or (λ (k : ℕ). k < 2 ^ v.shape.bits) keys place 0 within low);
          knows = goes.knows_table;
          may = may_change w a.next (a.left * a.bits) (room_on f (made_in s.left.parts) v w a.next (a.left * a.bits) goes p.room) (omega (arith, long, all, updates, within, budget));
          records = omega (arith, next, bits, one, le, small);
          some = omega (arith, rest, within, budget);
          inserts = omega (arith, ins, ci, long, all, within, budget, most);
          removals = omega (arith, rem, cr, long, all, within, budget, most);
        }

    -- and then one more was there
    pub left_more : {request : Request} {done : Outcome} {x : SeatView} {after : Account} → request ≡ get_or requests place Insert → LeftLeaf f w (get_or keys place 0) request done x → after ≡ account_after b request done
        → LeavesLeft keys requests before v a (place + 1) (slice_set outcomes place done) x after
    left_more {request} {done} {x} {after} asked l is = record {
      left = record {
        parts = parts ++ part ∷ [];
        one_each = length-append parts (part ∷ []) ∙ ap (λ (z : ℕ). z + 1) s.left.one_each;
        each = each;
        steps = l.steps ∙ ap (λ (z : List StepTaken). z ++ part.steps) s.left.steps ∙ append_assoc v.steps (steps_in parts) part.steps ∙ ap (λ (z : List StepTaken). v.steps ++ z) (sym (steps_more parts part));
        few_steps = let e = ap (λ (z : List StepTaken). length z) (steps_more parts part) ∙ length-append (steps_in parts) part.steps in let few = s.left.few_steps in let two = l.few_steps in omega (arith, e, few, two);
        goes = goes_after f 0 0 0 (made_in parts) part.made (made_in (parts ++ part ∷ [])) v w x (omega arith) (omega arith) (sym (made_more parts part)) goes l.goes;
        few_made = let e = ap (λ (z : List Change). length z) (made_more parts part) ∙ length-append (made_in parts) part.made in let few = s.left.few_made in let two = l.few_gained in omega (arith, e, few, two);
      };
      long = (let same = length-set outcomes place done in let long = s.long in omega (arith, same, long));
      rest = drop-set-lt (length keys) outcomes place done within ∙ s.rest;
      account = subst (IsAccountAfter (place + 1) a) (sym is) account_next;
      counts = subst (λ (z : Account). HasCounts (changes_of x.held) z.inserts z.removals) (sym is) (counted_to f w x b.inserts b.removals (insertions_by request done) (removals_by request done) part.made l.goes.changes s.counts l.counts);
    }
      where
        parts : List BatchPart
        parts = s.left.parts

        part : BatchPart
        part = record { steps = load_leaf (get_or keys place 0) l.word ∷ l.more; made = l.gained }

        here : LeftPart f v x (get_or keys place 0) (get_or requests place Insert) done part
        here = subst (λ (z : Request). LeftPart f v x (get_or keys place 0) z done part) asked record { before = w; after = x; from = goes.later; from_shape = goes.shaped; left = l; to = book_refl x.seen; steps = refl; made = refl }

        each : (i : ℕ) → i < place + 1 → LeftPart f v x (get_or keys i 0) (get_or requests i Insert) (get_or (slice_set outcomes place done) i Refused) (get_or (parts ++ part ∷ []) i no_part)
        each i below = ⊎_elim
            (λ (same : i ≡ place). let there : place < length outcomes = (let long = s.long in omega (arith, long, within)) in
            subst (λ (z : ℕ). LeftPart f v x (get_or keys z 0) (get_or requests z Insert) (get_or (slice_set outcomes place done) z Refused) (get_or (parts ++ part ∷ []) z no_part)) (sym same)
            (subst (λ (z : Outcome × BatchPart). LeftPart f v x (get_or keys place 0) (get_or requests place Insert) z.0 z.1) (λ j. (sym (get_or-set_same outcomes place done Refused there) j, sym (get_or_push parts part no_part place s.left.one_each) j)) here))
            (λ other. let less : i < place = omega (arith, below, other) in let e = s.left.each i less in let long = s.left.one_each in
            subst (λ (z : Outcome × BatchPart). LeftPart f v x (get_or keys i 0) (get_or requests i Insert) z.0 z.1) (λ j. (sym (get_or-set_other outcomes place i done Refused other) j, sym (get_or_append_left parts (part ∷ []) no_part i (omega (arith, less, long))) j))
            record { before = e.before; after = e.after; from = e.from; from_shape = e.from_shape; left = e.left; to = book_trans e.to l.goes.later; steps = e.steps; made = e.made }) (cases_eq i place)

        account_next : IsAccountAfter (place + 1) a (account_after b request done)
        account_next = let one = suc-mul place a.bits in let e : suc place * a.bits ≡ (place + 1) * a.bits = ap (λ (z : ℕ). z * a.bits) (let e : suc place ≡ place + 1 = omega arith in e) in
            let next : b.next ≡ a.next + place * a.bits = ap (λ (z : Account). z.next) s.account in let bits : b.bits ≡ a.bits = ap (λ (z : Account). z.bits) s.account in let rest : b.left ≡ a.left - place = ap (λ (z : Account). z.left) s.account in
            let next' : b.next + b.bits ≡ a.next + (place + 1) * a.bits = omega (arith, one, e, next, bits) in let rest' : b.left - 1 ≡ a.left - (place + 1) = omega (arith, rest) in
            λ i. record { leaves = (ap (λ (z : Account). z.leaves) s.account) i; bits = bits i; next = next' i; left = rest' i; inserts = b.inserts + insertions_by request done; removals = b.removals + removals_by request done }
