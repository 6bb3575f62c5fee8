-- The replies of all lanes, put in the order of the rows.
use Rattle.std.proofs.Common.{◌≡◌, ℕ, ◌+◌, ◌<◌, ◌≤◌, ◌==◌, cond, List, [], ◌∷◌, ◌++◌, length, map, take, get_or, set, refl, sym, ap, ◌∙◌, inl, inr, arith, append_assoc, take_all, add-one}
use Rattle.std.proofs.Math.Seq.{take-suc}
use Rattle.std.proofs.lemmas.Bool.{cases_eq, eq-eqb, ne_eqb}
use Rattle.std.proofs.lemmas.List.{append-nil, map-append, length-map, length-append, length-set, get_or-set_same, get_or-set_other}
use Rattle.std.proofs.lemmas.List.Elements.{All-get_or, filter-append}
use Rattle.aug_report.specs.AllowedReport.{lines_of}
use Rattle.aug_run.specs.inside.Returns.{AreAnswered, AreInOrder}
use Rattle.aug_run.specs.inside.Workers.{rows_of}
use Rattle.aug_script.specs.declared.reply.Reply.{Reply}
use Rattle.aug_script.specs.declared.row.Row.{Row}
use Rattle.aug_run.proofs.Backs.{lines_rows}
use Rattle.aug_run.proofs.Taking.{filter_has_room}
use Rattle.aug_run.proofs.Working.{no_row}

-- the replies to the first i rows were put in their order, and the rest of each lane's are still to come
pub record Merged (rows : List Row) (all : List (List Reply)) (i : ℕ) (rest : List (List Reply)) (lines : List (Row × Reply)) (len capacity : ℕ) : Type 0 where
  pub same_lanes : length rest ≡ length all
  pub rows_are : map (λ l. l.0) lines ≡ take i rows
  pub parts : (lane : ℕ) → lane < length all → map (λ l. l.1) (lines_of lane lines) ++ get_or rest lane [] ≡ get_or all lane []
  pub long : len ≡ i
  pub room : length rows ≤ capacity

module _ (rows : List Row) (all : List (List Reply)) where
  pub merged_none : (lines : List (Row × Reply)) (len capacity : ℕ) → lines ≡ [] → len ≡ 0 → length rows ≤ capacity → Merged rows all 0 all lines len capacity
  merged_none lines len capacity empty none room = rw empty (record { same_lanes = refl; rows_are = refl; parts = λ lane low. refl; long = none; room = room })

  module _ (answered : AreAnswered rows all) where
    -- so many replies are still to come
    left : (i : ℕ) (rest : List (List Reply)) (lines : List (Row × Reply)) (len capacity : ℕ) → Merged rows all i rest lines len capacity → (lane : ℕ) → lane < length all
        → length (rows_of lane (take i rows)) + length (get_or rest lane []) ≡ length (rows_of lane rows)
    left i rest lines len capacity m lane low =
        let whole = ap (λ (l : List Reply). length l) (m.parts lane low) in
        let sum = length-append (map (λ (l : Row × Reply). l.1) (lines_of lane lines)) (get_or rest lane []) in
        let front = length-map (lines_of lane lines) (λ (l : Row × Reply). l.1) ∙ sym (length-map (lines_of lane lines) (λ (l : Row × Reply). l.0)) ∙ ap (λ (l : List Row). length l) (lines_rows lane lines ∙ ap (rows_of lane) m.rows_are) in
        omega (arith, whole, sum, front, answered.as_many lane low)

    module _ (i : ℕ) (low : i < length rows) (rest : List (List Reply)) (lines : List (Row × Reply)) (len capacity : ℕ) (m : Merged rows all i rest lines len capacity) where
      -- the lane of the next row is one of them
      pub lane_low : (get_or rows i no_row).lane < length all
      lane_low = All-get_or (λ row. row.lane < length all) rows i no_row low answered.of_lanes

      -- and has a reply left
      pub some_left : 0 < length (get_or rest (get_or rows i no_row).lane [])
      some_left =
          let lane = (get_or rows i no_row).lane in
          omega (arith, left i rest lines len capacity m lane lane_low, filter_has_room (λ row. row.lane == lane) rows i no_row low (eq-eqb lane lane refl))

      pub has_room : len < capacity
      has_room = omega (arith, m.long, m.room)

      pub merged_more : (reply : Reply) (left : List Reply) (rest' : List (List Reply)) (lines' : List (Row × Reply)) (len' capacity' : ℕ)
          → get_or rest (get_or rows i no_row).lane [] ≡ reply ∷ left → rest' ≡ set rest (get_or rows i no_row).lane left
          → lines' ≡ lines ++ (get_or rows i no_row, reply) ∷ [] → len' ≡ len + 1 → capacity ≤ capacity' → Merged rows all (i + 1) rest' lines' len' capacity'
      merged_more reply left rest' lines' len' capacity' first now is one wide =
          let row = get_or rows i no_row in
          let line : Row × Reply = (row, reply) in
          record {
            same_lanes = ap (λ (l : List (List Reply)). length l) now ∙ length-set rest row.lane left ∙ m.same_lanes;
            rows_are = rw is (map-append (λ (l : Row × Reply). l.0) lines (line ∷ []) ∙ ap (λ l. l ++ row ∷ []) m.rows_are ∙ sym (took row));
            parts = λ lane below.
                let lines_are : lines_of lane lines' ≡ lines_of lane lines ++ lines_of lane (line ∷ []) = ap (lines_of lane) is ∙ filter-append (λ (l : Row × Reply). l.0.lane == lane) lines (line ∷ []) in
                elim (cases_eq lane row.lane) [
                  | inl e ↦
                      let own : lines_of lane lines' ≡ lines_of lane lines ++ line ∷ [] = lines_are ∙ ap (λ b. lines_of lane lines ++ cond b (line ∷ []) []) (eq-eqb row.lane lane (sym e)) in
                      let here : get_or rest' lane [] ≡ left = ap (λ (l : List (List Reply)). get_or l lane []) now ∙ ap (λ k. get_or (set rest row.lane left) k []) e ∙ get_or-set_same rest row.lane left [] (omega (arith, m.same_lanes, lane_low)) in
                      let was : get_or rest lane [] ≡ reply ∷ left = ap (λ k. get_or rest k []) e ∙ first in
                      rw (own, here) (ap (λ l. l ++ left) (map-append (λ (l : Row × Reply). l.1) (lines_of lane lines) (line ∷ [])) ∙ append_assoc (map (λ (l : Row × Reply). l.1) (lines_of lane lines)) (reply ∷ []) left
                      ∙ ap (λ l. map (λ (x : Row × Reply). x.1) (lines_of lane lines) ++ l) (sym was) ∙ m.parts lane below)
                  | inr ne ↦
                      let own : lines_of lane lines' ≡ lines_of lane lines = lines_are ∙ ap (λ b. lines_of lane lines ++ cond b (line ∷ []) []) (ne_eqb row.lane lane (λ e. ne (sym e))) ∙ append-nil (lines_of lane lines) in
                      let here : get_or rest' lane [] ≡ get_or rest lane [] = ap (λ (l : List (List Reply)). get_or l lane []) now ∙ get_or-set_other rest row.lane lane left [] ne in
                      rw (own, here) (m.parts lane below)
                ];
            long = omega (arith, m.long, one);
            room = omega (arith, m.room, wide);
          }
        where
          took : (row : Row) → take (i + 1) rows ≡ take i rows ++ get_or rows i no_row ∷ []
          took row = ap (λ n. take n rows) (add-one i) ∙ take-suc rows i no_row low

    -- where all rows were passed, all replies stand in order
    pub merged_all : (i : ℕ) (rest : List (List Reply)) (lines : List (Row × Reply)) (len capacity : ℕ) → length rows ≤ i → Merged rows all i rest lines len capacity → AreInOrder rows all lines
    merged_all i rest lines len capacity past m =
        let whole : take i rows ≡ rows = take_all i rows past in
        record {
          rows_are = m.rows_are ∙ whole;
          replies_are = λ lane low.
              let none : length (get_or rest lane []) ≡ 0 = omega (arith, left i rest lines len capacity m lane low, ap (λ (l : List Row). length (rows_of lane l)) whole) in
              sym (append-nil (map (λ (l : Row × Reply). l.1) (lines_of lane lines))) ∙ ap (λ l. map (λ (x : Row × Reply). x.1) (lines_of lane lines) ++ l) (sym (empty (get_or rest lane []) none)) ∙ m.parts lane low;
        }
      where
        empty : (l : List Reply) → length l ≡ 0 → l ≡ []
        empty [] none = refl
        empty (x ∷ l) none = absurd (omega arith)
