-- How many rows each lane has among the first ones.
use Rattle.std.proofs.Common.{◌≡◌, ℕ, ◌+◌, ◌<◌, ◌≤◌, ◌==◌, Bool, cond, List, [], length, take, get_or, set, refl, sym, ap, ◌∙◌, inl, inr, arith, All, take_all}
use Rattle.std.proofs.lemmas.Bool.{cases_eq, eq-eqb, ne_eqb}
use Rattle.std.proofs.lemmas.List.{length-set, length-take-le, get_or-set_same, get_or-set_other}
use Rattle.std.proofs.lemmas.List.Elements.{All-get_or}
use Rattle.std.proofs.lemmas.List.Filters.{length-filter_more}
use Rattle.aug_core.proofs.Counting.{filter_shorter}
use Rattle.aug_run.specs.inside.Workers.{AreRowCounts}
use Rattle.aug_script.specs.declared.row.Row.{Row}
use Rattle.aug_run.proofs.Working.{no_row}

pub counted_none : (counts : List ℕ) → ((lane : ℕ) → get_or counts lane 0 ≡ 0) → AreRowCounts (length counts) [] counts
counted_none counts zero = record { one_each = refl; counted = λ lane low. zero lane }

module _ (rows : List Row) (workers i : ℕ) (low : i < length rows) (counts : List ℕ) (was : AreRowCounts workers (take i rows) counts) (lanes : All (λ row. row.lane < workers) rows) where
  pub lane_fits : (get_or rows i no_row).lane < length counts
  lane_fits = omega (arith, was.one_each, All-get_or (λ row. row.lane < workers) rows i no_row low lanes)

  -- no lane has more rows than there are
  pub few : get_or counts (get_or rows i no_row).lane 0 ≤ i
  few =
      let lane = (get_or rows i no_row).lane in
      omega (arith, was.counted lane (All-get_or (λ row. row.lane < workers) rows i no_row low lanes), filter_shorter (λ row. row.lane == lane) (take i rows), length-take-le i rows (omega arith))

  pub counted_more : (counts' : List ℕ) → counts' ≡ set counts (get_or rows i no_row).lane (get_or counts (get_or rows i no_row).lane 0 + 1) → AreRowCounts workers (take (i + 1) rows) counts'
  counted_more counts' is =
      let own = (get_or rows i no_row).lane in
      let n = get_or counts own 0 + 1 in
      record {
        one_each = ap (λ (l : List ℕ). length l) is ∙ length-set counts own n ∙ was.one_each;
        counted = λ lane below.
            let more = length-filter_more (λ row. row.lane == lane) rows i no_row low in
            let read : get_or counts' lane 0 ≡ get_or (set counts own n) lane 0 = ap (λ (l : List ℕ). get_or l lane 0) is in
            elim (cases_eq lane own) [
              | inl e ↦
                  let one : cond (own == lane) 1 0 ≡ 1 = ap (λ (b : Bool). one_if b) (eq-eqb own lane (sym e)) in
                  let here : get_or (set counts own n) lane 0 ≡ n = ap (λ k. get_or (set counts own n) k 0) e ∙ get_or-set_same counts own n 0 lane_fits in
                  omega (arith, more, one, read, here, was.counted lane below, ap (λ k. get_or counts k 0) e)
              | inr ne ↦
                  let none : cond (own == lane) 1 0 ≡ 0 = ap (λ (b : Bool). one_if b) (ne_eqb own lane (λ e. ne (sym e))) in
                  omega (arith, more, none, read, get_or-set_other counts own lane n 0 ne, was.counted lane below)
            ];
      }
    where
      one_if : Bool → ℕ
      one_if b = cond b 1 0

pub counted_all : (rows : List Row) (workers i : ℕ) (counts : List ℕ) → length rows ≤ i → AreRowCounts workers (take i rows) counts → AreRowCounts workers rows counts
counted_all rows workers i counts past counted = rw (take_all i rows past) at counted
