-- A plan that the memory has room for is not refused, and the greatest one.
use Rattle.std.proofs.Common.{◌≡◌, ◌∙◌, ◌⊎◌, inl, inr, ⊎_elim, Result, Ok, Err, Bool, true, false, ℕ, ◌+◌, ◌-◌, ◌*◌, ◌/◌, ◌^◌, ◌<◌, ◌≤◌, min, max, ap, refl, sym, subst, arith}
use Rattle.std.proofs.Math.Nat.{le-div_iff_mul-le, mul-add, mul_assoc, mul_comm}
use Rattle.std.proofs.lemmas.Bool.{cases_lt, false≢true}
use Rattle.std.proofs.lemmas.Nat.{mul-le}
use Rattle.std.specs.Prelude.{◌↔◌}
use Rattle.std.specs.Result.{is_err}
use Rattle.aug_core.specs.Layout.{IsRefused, IsWithin}
use Rattle.aug_core.specs.Places.{own_records, shape_of, word_count}
use Rattle.aug_core.specs.declared.layout.LayoutError.TheVariants as layout
use Rattle.aug_live.specs.Plans.{Fits, IsGreatest, Suits, least_plan}
use Rattle.aug_live.specs.declared.error.OpenError.{OpenError}
use Rattle.aug_live.specs.declared.error.OpenError.TheVariants.{BadHandles, BadLanes, BadUpdates, TooLarge, BadTables, OutOfMemory}
use Rattle.aug_live.specs.declared.plan.Plan.{Plan}

-- whether a result is an error for want of memory
abbrev pub wants : OpenError → Bool
wants OutOfMemory = true
wants BadHandles = false
wants BadLanes = false
wants BadUpdates = false
wants TooLarge = false
wants BadTables = false

-- what is not this error is right where the check that would have refused so passed
pub passed : {T U F : Type 0} (P : ℕ → Type 0) (bits bits' : ℕ) (cause : OpenError) (ok : T) (found : Result U F) (told : F) → bits ≡ bits' → ((Ok ok ≡ Err cause) ↔ P bits) → (found ≡ Err told → ⊥) → (found ≡ Err told) ↔ P bits'
passed P bits bits' cause ok found told same known other = (λ so. absurd (other so), λ p. absurd (false≢true (ap is_err (known.1 (subst P (sym same) p)))))

pub same_bits : (bits bits' memory : ℕ) (plan : Plan) → bits' ≡ bits → Fits bits' memory plan → Fits bits memory plan
same_bits bits bits' memory plan same fits = subst (λ (z : ℕ). Fits z memory plan) same fits

pub suits_alike : (bits bits' handles memory : ℕ) → bits' ≡ bits → Suits bits' handles memory → Suits bits handles memory
suits_alike bits bits' handles memory same suits = subst (λ (z : ℕ). Suits z handles memory) same suits

pub not_large : (bits bits' memory : ℕ) (plan : Plan) → bits' ≡ bits → Fits bits' memory plan → IsRefused layout.TooLarge bits plan.lanes plan.updates (2 ^ bits) → ⊥
not_large bits bits' memory plan same fits large = let words = (same_bits bits bits' memory plan same fits).laid_out.words in omega (arith, words, large.3)

-- the numbers of a plan: so many lanes, and so many updates of each, for which there is room, where a lane takes a word, and `update` for each update
record IsMost (update room handles lanes updates : ℕ) : Type 0 where
  enough : handles ≤ lanes
  least : 64 ≤ updates
  lanes_fit : IsWithin 1 64 lanes
  updates_fit : IsWithin 1 65536 updates
  fits : lanes * (1 + update * updates) ≤ room
  no_lane : lanes + 1 ≤ 64 → (lanes + 1) * (1 + update * 256) ≤ room → ⊥
  no_update : updates + 1 ≤ 65536 → lanes * (1 + update * (updates + 1)) ≤ room → ⊥
  spare : (lanes ≡ handles) ⊎ (256 ≤ updates)

-- how many updates of each lane there is room for
updates_most : (update room lanes updates : ℕ) → 1 ≤ update → 1 ≤ lanes → (updates ≤ (room / lanes - 1) / update) → 1 ≤ room / lanes → lanes * (1 + update * updates) ≤ room
updates_most update room lanes updates some some_lane le one = let a : updates * update ≤ room / lanes - 1 = (le-div_iff_mul-le {k = update} {x = updates} {y = room / lanes - 1} (omega (arith, some))).0 le in
    let b : 1 + update * updates ≤ room / lanes = (let c = mul_comm updates update in omega (arith, a, c, one)) in
    let c : (1 + update * updates) * lanes ≤ room = (le-div_iff_mul-le {k = lanes} {x = 1 + update * updates} {y = room} (omega (arith, some_lane))).0 b in let d = mul_comm (1 + update * updates) lanes in omega (arith, c, d)

most_updates : (update room lanes updates : ℕ) → 1 ≤ update → 1 ≤ lanes → lanes * (1 + update * updates) ≤ room → updates ≤ (room / lanes - 1) / update
most_updates update room lanes updates some some_lane fits = let d = mul_comm (1 + update * updates) lanes in
    let b : 1 + update * updates ≤ room / lanes = (le-div_iff_mul-le {k = lanes} {x = 1 + update * updates} {y = room} (omega (arith, some_lane))).1 (omega (arith, fits, d)) in
    (le-div_iff_mul-le {k = update} {x = updates} {y = room / lanes - 1} (omega (arith, some))).1 (let c = mul_comm updates update in omega (arith, b, c))

-- and how many lanes of so many updates
most_lanes : (update room lanes updates : ℕ) → lanes * (1 + update * updates) ≤ room → lanes ≤ room / (1 + update * updates)
most_lanes update room lanes updates fits = (le-div_iff_mul-le {k = 1 + update * updates} {x = lanes} {y = room} (omega arith)).1 fits

lanes_most : (update room lanes updates : ℕ) → lanes ≤ room / (1 + update * updates) → lanes * (1 + update * updates) ≤ room
lanes_most update room lanes updates le = (le-div_iff_mul-le {k = 1 + update * updates} {x = lanes} {y = room} (omega arith)).0 le

most : (update room handles lanes updates : ℕ) → 1 ≤ update → 1 ≤ handles → handles ≤ 64 → handles * (1 + 64 * update) ≤ room → lanes ≡ max (min (room / (1 + 256 * update)) 64) handles → updates ≡ min ((room / lanes - 1) / update) 65536 → IsMost update room handles lanes updates
most update room handles lanes updates some some_handle few least lanes_are updates_are = record {
  enough = enough;
  least = omega (arith, updates_are, one);
  lanes_fit = (omega (arith, enough, some_handle), omega (arith, lanes_are, few));
  updates_fit = (omega (arith, updates_are, one), omega (arith, updates_are));
  fits = updates_most update room lanes updates some some_lane (omega (arith, updates_are)) one_word;
  no_lane = λ up fits. let le = most_lanes update room (lanes + 1) 256 fits in omega (arith, le, up, lanes_are, same);
  no_update = λ up fits. let le = most_updates update room lanes (updates + 1) some some_lane fits in omega (arith, le, up, updates_are);
  spare = ⊎_elim (λ (lt : handles < lanes). inr (let le = most_updates update room lanes 256 some some_lane (lanes_most update room lanes 256 (omega (arith, lt, lanes_are, same))) in omega (arith, le, updates_are)))
      (λ (ge : lanes ≤ handles). inl (omega (arith, ge, enough))) (cases_lt handles lanes);
}
  where
    same : room / (1 + 256 * update) ≡ room / (1 + update * 256)
    same = let e : 1 + 256 * update ≡ 1 + update * 256 = omega arith in ap (λ (z : ℕ). room / z) e

    enough : handles ≤ lanes
    enough = omega (arith, lanes_are)

    some_lane : 1 ≤ lanes
    some_lane = omega (arith, enough, some_handle)

    first_updates : lanes * (1 + update * 64) ≤ room
    first_updates = ⊎_elim (λ (lt : handles < lanes). let all = lanes_most update room lanes 256 (omega (arith, lt, lanes_are, same)) in
        let le : lanes * (1 + update * 64) ≤ lanes * (1 + update * 256) = mul-le lanes (1 + update * 64) lanes (1 + update * 256) (omega arith) (omega arith) in omega (arith, all, le))
        (λ (ge : lanes ≤ handles). let e : lanes ≡ handles = omega (arith, ge, enough) in let f : 1 + 64 * update ≡ 1 + update * 64 = omega arith in
        subst (λ (z : ℕ). z * (1 + update * 64) ≤ room) (sym e) (subst (λ (z : ℕ). handles * z ≤ room) f least)) (cases_lt handles lanes)

    one : 64 ≤ (room / lanes - 1) / update
    one = most_updates update room lanes 64 some some_lane first_updates

    one_word : 1 ≤ room / lanes
    one_word = (le-div_iff_mul-le {k = lanes} {x = 1} {y = room} (omega (arith, some_lane))).1 (let le = first_updates in let le' : lanes * 1 ≤ lanes * (1 + update * 64) = mul-le lanes 1 lanes (1 + update * 64) (omega arith) (omega arith) in omega (arith, le, le'))

-- the words of a table, of which those of lanes are apart
words_are : (bits lanes updates members : ℕ) → word_count (shape_of bits lanes updates members) ≡ 2 ^ (bits + 1) - 1 + 5 * (bits + own_records bits members bits) + lanes * (1 + 5 * bits * updates)
words_are bits lanes updates members = let a = mul_assoc lanes updates bits in let b = mul_comm updates bits in let c = mul-add lanes 1 (5 * bits * updates) in
    let d : lanes * (updates * bits) ≡ lanes * (bits * updates) = ap (λ (z : ℕ). lanes * z) b in let e : 5 * bits * updates ≡ 5 * (bits * updates) = mul_assoc 5 bits updates in
    let f : lanes * (5 * bits * updates) ≡ lanes * (5 * (bits * updates)) = ap (λ (z : ℕ). lanes * z) e in let g : lanes * (5 * (bits * updates)) ≡ 5 * (lanes * (bits * updates)) = five lanes (bits * updates) in omega (arith, a, c, d, f, g)
  where
    five : (a b : ℕ) → a * (5 * b) ≡ 5 * (a * b)
    five a b = sym (mul_assoc a 5 b) ∙ ap (λ (z : ℕ). z * b) (mul_comm a 5) ∙ mul_assoc 5 a b

-- those that a table has without lanes
abbrev bare_words : ℕ → ℕ
bare_words bits = 2 ^ (bits + 1) - 1 + 5 * (bits + own_records bits (2 ^ bits) bits)

-- the plan of these numbers is the greatest
pub is_greatest : (bits handles memory words room lanes updates : ℕ) → Fits bits memory (least_plan handles) → memory ≤ 3 * 2 ^ 29 → words ≡ word_count (shape_of bits handles 64 (2 ^ bits)) → room ≡ memory / 24 - words + handles * (1 + 64 * (5 * bits))
    → lanes ≡ max (min (room / (1 + 256 * (5 * bits))) 64) handles → updates ≡ min ((room / lanes - 1) / (5 * bits)) 65536 → IsGreatest bits handles memory (record { lanes = lanes; updates = updates; tables = 3 })
is_greatest bits handles memory words room lanes updates least not_more words_is room_is lanes_are updates_are = record {
  enough = m.enough;
  least = m.least;
  fits = record { laid_out = record { bits = within; workers = m.lanes_fit; updates = m.updates_fit; words = (let a = all lanes updates in let b = m.fits in omega (arith, a, b, is, few)) }; bytes = (let a = all lanes updates in let b = m.fits in omega (arith, a, b, is)); three = refl };
  no_lane = λ f. let l = f.laid_out in m.no_lane l.workers.1 (fitting (lanes + 1) 256 f);
  no_update = λ f. let l = f.laid_out in m.no_update l.updates.1 (fitting lanes (updates + 1) f);
  spare = m.spare;
}
  where
    within : IsWithin 1 16 bits
    within = least.laid_out.bits

    all : (l u : ℕ) → word_count (shape_of bits l u (2 ^ bits)) ≡ bare_words bits + l * (1 + 5 * bits * u)
    all l u = words_are bits l u (2 ^ bits)

    least_are : words ≡ bare_words bits + handles * (1 + 64 * (5 * bits))
    least_are = let e : 1 + 5 * bits * 64 ≡ 1 + 64 * (5 * bits) = omega arith in words_is ∙ all handles 64 ∙ ap (λ (z : ℕ). bare_words bits + handles * z) e

    is : bare_words bits + room ≡ memory / 24
    is = let a = least_are in let b = least.bytes in omega (arith, a, b, words_is, room_is)

    few : memory / 24 ≤ 2 ^ 26
    few = omega (arith, not_more)

    fitting : (l u : ℕ) → Fits bits memory (record { lanes = l; updates = u; tables = 3 }) → l * (1 + 5 * bits * u) ≤ room
    fitting l u f = let a = all l u in let b = f.bytes in let c = f.laid_out.words in omega (arith, a, b, c, is)

    m : IsMost (5 * bits) room handles lanes updates
    m = let some = within.0 in let w = least.laid_out.workers in most (5 * bits) room handles lanes updates (omega (arith, some)) w.0 w.1 (let a = room_is in omega arith) lanes_are updates_are
