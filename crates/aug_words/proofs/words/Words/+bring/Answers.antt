use Rattle.std.proofs.Common.{inl, refl, ap, ⊎_elim, sym, subst, ◌∙◌, ◌≡◌, ◌+◌, ◌-◌, ◌*◌, ◌/◌, ◌^◌, ◌<◌, ℕ, List, length, length-set, get_or, set, arith}
use Rattle.std.proofs.lemmas.Bool.{false≢true}
use Rattle.std.proofs.lemmas.List.{get_or_read}
use Rattle.aug_core.specs.Addresses.{IsInner, left_of, right_of, level_of, place_on}
use Rattle.aug_core.specs.Book.{Book, IsBook, NamesOnce}
use Rattle.aug_core.specs.Eras.{table_part}
use Rattle.aug_core.specs.Faces.{face}
use Rattle.aug_core.specs.Places.{Shape, record_words, word_count}
use Rattle.aug_core.specs.declared.view.SeatView.{SeatView}
use Rattle.aug_core.proofs.Levels.{on_level}
use Rattle.aug_words.specs.Seats.{Store}
use Rattle.aug_words.specs.inside.Laying.{Brings, IsLaidAs, NamesEntry, MayBring, renewed_word, words_in, LaysNode, StepsBeside, next_record}
use Rattle.aug_words.proofs.Brought.{inner_by, numbered_in, slot_in}
use Rattle.aug_core.proofs.Fits.{HasFewSerials, few_serials}
use Rattle.aug_words.proofs.Chunks.{below_same, brings_leaf, brings_none, brings_same, leaf_as, left_below, left_named, node_in, right_below, right_named, brings_halves, brings_node, laid_same, node_laid}
use Rattle.aug_words.proofs.Lays.{beside_seen, leaves_are, part_words, beside_on, beside_stored, brings_on}
use Rattle.aug_core.proofs.Sizes.{twice}
use Rattle.aug_words.proofs.words.Words.+bring.Goals as goal

pub returns-then-node-leaves-clause-brings : goal.returns-then-node-leaves-clause-brings
returns-then-node-leaves-clause-brings g t c =
    let s : Shape = c.args.self.now.shape in let leaves = leaves_are _ _ _ s _ _ c.self.invariant (ap (λ (z : Store). z.shape) c.self.view_is) in let m = c.requires.may in let f = face g.A.Monoid.parts g.B.Monoid.parts in let v : SeatView = c.args.seat.now.me.0 in let base : ℕ = c.args.draft.now.base in let q : ℕ = c.args.node in
    let low : q < 2 ^ s.bits = (let under = c.if-node-leaves.true in omega arith) in let w : List ℕ = words_in base s v in let value : ℕ = renewed_word c.args.word in
    let put : words_in base s c.put_word.new.seat.me.0 ≡ set w q value = c.put_word.ensures.puts.puts ∙ ap (set w q) c.renewed_word.ensures in
    subst (λ (z : List ℕ). Brings f s v.seen (level_of s q) (place_on s q) w z c.args.draft.now.shown.items c.args.draft.now.shown.items) (sym put) (brings_leaf s m.room f v.seen q value w c.args.draft.now.shown.items low)

pub returns-then-node-leaves-clause-done : goal.returns-then-node-leaves-clause-done
returns-then-node-leaves-clause-done g t c is =
    let s : Shape = c.args.self.now.shape in let leaves = leaves_are _ _ _ s _ _ c.self.invariant (ap (λ (z : Store). z.shape) c.self.view_is) in let m = c.requires.may in let f = face g.A.Monoid.parts g.B.Monoid.parts in let v : SeatView = c.args.seat.now.me.0 in let base : ℕ = c.args.draft.now.base in let q : ℕ = c.args.node in
    let book : Book = v.seen in let b : IsBook f s book = subst (λ (z : Shape). IsBook f z book) m.shaped m.knows.book in let named = c.requires.named in
    let low : q < 2 ^ s.bits = (let under = c.if-node-leaves.true in omega arith) in let w : List ℕ = words_in base s v in let value : ℕ = renewed_word c.args.word in
    let put : words_in base s c.put_word.new.seat.me.0 ≡ set w q value = c.put_word.ensures.puts.puts ∙ ap (set w q) c.renewed_word.ensures in
    subst (IsLaidAs f s book q c.args.word) (sym put) (leaf_as s m.room f book b q named.index c.args.word named.entry w low named.at named.named (part_words base s _ _ c.args.seat.now.me m.may))

pub overflow_add-word : goal.overflow_add-word
overflow_add-word g t c =
    let s : Shape = c.args.self.now.shape in let leaves = leaves_are _ _ _ s _ _ c.self.invariant (ap (λ (z : Store). z.shape) c.self.view_is) in let m = c.requires.may in let f = face g.A.Monoid.parts g.B.Monoid.parts in let v : SeatView = c.args.seat.now.me.0 in let base : ℕ = c.args.draft.now.base in let q : ℕ = c.args.node in
    let book : Book = v.seen in let b : IsBook f s book = subst (λ (z : Shape). IsBook f z book) m.shaped m.knows.book in let named = c.requires.named in
    let past = c.if-node-leaves.false in let inner : IsInner s q = record { past_leaves = omega arith; inside = c.requires.node } in let number : named.entry.number ≡ c.args.word = numbered_in f s v q c.args.word m.shaped m.keeps_records m.knows inner named in
    let fits = m.knows.book.below q named.index named.entry (subst (λ (z : Shape). IsInner z q) (sym m.shaped) inner) named.at in let most = m.knows.laid_out.words in omega (arith, number, fits)

pub overflow_add-word-then-right : goal.overflow_add-word-then-right
overflow_add-word-then-right g t c =
    let s : Shape = c.args.self.now.shape in let leaves = leaves_are _ _ _ s _ _ c.self.invariant (ap (λ (z : Store). z.shape) c.self.view_is) in let m = c.requires.may in let f = face g.A.Monoid.parts g.B.Monoid.parts in let v : SeatView = c.args.seat.now.me.0 in let base : ℕ = c.args.draft.now.base in let q : ℕ = c.args.node in
    let book : Book = v.seen in let b : IsBook f s book = subst (λ (z : Shape). IsBook f z book) m.shaped m.knows.book in let named = c.requires.named in
    let past = c.if-node-leaves.false in let inner : IsInner s q = record { past_leaves = omega arith; inside = c.requires.node } in let number : named.entry.number ≡ c.args.word = numbered_in f s v q c.args.word m.shaped m.keeps_records m.knows inner named in
    let fits = m.knows.book.below q named.index named.entry (subst (λ (z : Shape). IsInner z q) (sym m.shaped) inner) named.at in let most = m.knows.laid_out.words in omega (arith, number, fits)

pub load_record-five-requires-clause-guards : goal.load_record-five-requires-clause-guards
load_record-five-requires-clause-guards g t c =
    let s : Shape = c.args.self.now.shape in let leaves = leaves_are _ _ _ s _ _ c.self.invariant (ap (λ (z : Store). z.shape) c.self.view_is) in let m = c.requires.may in let f = face g.A.Monoid.parts g.B.Monoid.parts in let v : SeatView = c.args.seat.now.me.0 in let base : ℕ = c.args.draft.now.base in let q : ℕ = c.args.node in
    let book : Book = v.seen in let b : IsBook f s book = subst (λ (z : Shape). IsBook f z book) m.shaped m.knows.book in let named = c.requires.named in
    let past = c.if-node-leaves.false in let inner : IsInner s q = record { past_leaves = omega arith; inside = c.requires.node } in let number : named.entry.number ≡ c.args.word = numbered_in f s v q c.args.word m.shaped m.keeps_records m.knows inner named in
    record { place = q; index = named.index; entry = named.entry; guards = record { inner = subst (λ (z : Shape). IsInner z q) (sym m.shaped) inner; at = named.at; covers = inl m.keeps_records }; numbered = number }

pub returns-then-index-word-clause-done : goal.returns-then-index-word-clause-done
returns-then-index-word-clause-done g t c is =
    let s : Shape = c.args.self.now.shape in let leaves = leaves_are _ _ _ s _ _ c.self.invariant (ap (λ (z : Store). z.shape) c.self.view_is) in let m = c.requires.may in let f = face g.A.Monoid.parts g.B.Monoid.parts in let v : SeatView = c.args.seat.now.me.0 in let base : ℕ = c.args.draft.now.base in let q : ℕ = c.args.node in
    let book : Book = v.seen in let b : IsBook f s book = subst (λ (z : Shape). IsBook f z book) m.shaped m.knows.book in let named = c.requires.named in
    let past = c.if-node-leaves.false in let inner : IsInner s q = record { past_leaves = omega arith; inside = c.requires.node } in let number : named.entry.number ≡ c.args.word = numbered_in f s v q c.args.word m.shaped m.keeps_records m.knows inner named in
    let on = on_level s q c.requires.node in c.requires.below q c.args.word inner (node_in s (level_of s q) (place_on s q) q on) (let h : List ℕ = c.args.draft.now.shown.items in let slot : q - (c.self.inside.lanes / 2 + 1) ≡ q - 2 ^ s.bits = omega arith in let long = c.requires.noted in let inside = c.requires.node in let t = twice s.bits in
    ap (λ (z : ℕ). get_or h z 0) (sym slot) ∙ sym (get_or_read h (q - (c.self.inside.lanes / 2 + 1)) c.index.result.now (omega arith) c.index.ensures 0) ∙ c.if-index-word.true)

pub returns-then-passes-clause-brings : goal.returns-then-passes-clause-brings
returns-then-passes-clause-brings g t c =
    let s : Shape = c.args.self.now.shape in let leaves = leaves_are _ _ _ s _ _ c.self.invariant (ap (λ (z : Store). z.shape) c.self.view_is) in let m = c.requires.may in let f = face g.A.Monoid.parts g.B.Monoid.parts in let v : SeatView = c.args.seat.now.me.0 in let base : ℕ = c.args.draft.now.base in let q : ℕ = c.args.node in
    subst (λ (z : List ℕ). Brings f s v.seen (level_of s q) (place_on s q) (words_in base s v) (words_in base s v) c.args.draft.now.shown.items z) (ap (λ z. z.items) (sym c.passes.ensures.shown)) (brings_none s m.room f v.seen (level_of s q) (place_on s q) (words_in base s v) c.args.draft.now.shown.items c.requires.below)

pub bring-left-requires : goal.bring-left-requires
bring-left-requires g t c κs lives =
    let s : Shape = c.args.self.now.shape in let leaves = leaves_are _ _ _ s _ _ c.self.invariant (ap (λ (z : Store). z.shape) c.self.view_is) in let m = c.requires.may in let f = face g.A.Monoid.parts g.B.Monoid.parts in let v : SeatView = c.args.seat.now.me.0 in let base : ℕ = c.args.draft.now.base in let q : ℕ = c.args.node in
    let book : Book = v.seen in let b : IsBook f s book = subst (λ (z : Shape). IsBook f z book) m.shaped m.knows.book in let named = c.requires.named in
    let past = c.if-node-leaves.false in let inner : IsInner s q = record { past_leaves = omega arith; inside = c.requires.node } in let number : named.entry.number ≡ c.args.word = numbered_in f s v q c.args.word m.shaped m.keeps_records m.knows inner named in
    let h : List ℕ = c.args.draft.now.shown.items in let five : List ℕ = c.load_record-five.result in let w : List ℕ = words_in base s v in
    let says : (field : ℕ) → field < record_words → get_or five field 0 ≡ get_or named.entry.words field 0 = λ field low. c.load_record-five.ensures.says field low q named.index named.entry record { inner = subst (λ (z : Shape). IsInner z q) (sym m.shaped) inner; at = named.at; covers = inl m.keeps_records } number in
    let slot : q - (c.self.inside.lanes / 2 + 1) ≡ q - 2 ^ s.bits = omega arith in let left_at : 2 * (q - (c.self.inside.lanes / 2 + 1)) ≡ left_of s q = omega arith in let right_at : 2 * (q - (c.self.inside.lanes / 2 + 1)) + 1 ≡ right_of s q = omega arith in
    let same : c.passes.new.self.base ≡ base = c.passes.ensures.base in
    let cleared : set c.passes.new.self.shown.items (q - (c.self.inside.lanes / 2 + 1)) 0 ≡ set h (q - 2 ^ s.bits) 0 = λ i. set ((ap (λ z. z.items) c.passes.ensures.shown) i) (slot i) 0 in
    let seen0 = beside_seen c.passes.new.self.base s v c.load_record-five.new.seat.me.0 c.load_record-five.ensures.view in
    let words0 : words_in c.passes.new.self.base s c.load_record-five.new.seat.me.0 ≡ w = λ i. table_part (same i) (word_count s) (c.load_record-five.ensures.same i) in
    let inside = c.requires.node in let twin = twice s.bits in (omega (arith, c.decreases), (lives.0, (lives.1, (c.load_record-five.ensures.may, (omega arith, (subst (λ (z : Book × ℕ). NamesEntry z.0 z.1 (get_or five 0 0)) (λ i. (sym seen0 i, sym left_at i)) (left_named g.A.Monoid.parts g.B.Monoid.parts s m.room book b q named.index inner named.entry five named.at says), (ap length cleared ∙ length-set h (q - 2 ^ s.bits) 0 ∙ c.requires.noted, below_same s m.room f book _ _ (left_of s q) _ w _ (set h (q - 2 ^ s.bits) 0) (sym seen0) (sym left_at) (sym words0) (sym cleared) (left_below s m.room f book q inner w h c.requires.below))))))))

pub bring-right-requires : goal.bring-right-requires
bring-right-requires g t c κs lives =
    let s : Shape = c.args.self.now.shape in let leaves = leaves_are _ _ _ s _ _ c.self.invariant (ap (λ (z : Store). z.shape) c.self.view_is) in let m = c.requires.may in let f = face g.A.Monoid.parts g.B.Monoid.parts in let v : SeatView = c.args.seat.now.me.0 in let base : ℕ = c.args.draft.now.base in let q : ℕ = c.args.node in
    let book : Book = v.seen in let b : IsBook f s book = subst (λ (z : Shape). IsBook f z book) m.shaped m.knows.book in let named = c.requires.named in
    let past = c.if-node-leaves.false in let inner : IsInner s q = record { past_leaves = omega arith; inside = c.requires.node } in let number : named.entry.number ≡ c.args.word = numbered_in f s v q c.args.word m.shaped m.keeps_records m.knows inner named in
    let h : List ℕ = c.args.draft.now.shown.items in let five : List ℕ = c.load_record-five.result in let w : List ℕ = words_in base s v in
    let says : (field : ℕ) → field < record_words → get_or five field 0 ≡ get_or named.entry.words field 0 = λ field low. c.load_record-five.ensures.says field low q named.index named.entry record { inner = subst (λ (z : Shape). IsInner z q) (sym m.shaped) inner; at = named.at; covers = inl m.keeps_records } number in
    let slot : q - (c.self.inside.lanes / 2 + 1) ≡ q - 2 ^ s.bits = omega arith in let left_at : 2 * (q - (c.self.inside.lanes / 2 + 1)) ≡ left_of s q = omega arith in let right_at : 2 * (q - (c.self.inside.lanes / 2 + 1)) + 1 ≡ right_of s q = omega arith in
    let same : c.passes.new.self.base ≡ base = c.passes.ensures.base in
    let cleared : set c.passes.new.self.shown.items (q - (c.self.inside.lanes / 2 + 1)) 0 ≡ set h (q - 2 ^ s.bits) 0 = λ i. set ((ap (λ z. z.items) c.passes.ensures.shown) i) (slot i) 0 in
    let seen0 = beside_seen c.passes.new.self.base s v c.load_record-five.new.seat.me.0 c.load_record-five.ensures.view in
    let words0 : words_in c.passes.new.self.base s c.load_record-five.new.seat.me.0 ≡ w = λ i. table_part (same i) (word_count s) (c.load_record-five.ensures.same i) in
    let w1 : List ℕ = words_in base s c.bring-left.new.seat.me.0 in let h1 : List ℕ = c.bring-left.new.draft.shown.items in
    let left : Brings f s book (level_of s (left_of s q)) (place_on s (left_of s q)) w w1 (set h (q - 2 ^ s.bits) 0) h1 = brings_same s m.room f book _ _ (left_of s q) _ _ w w1 _ (set h (q - 2 ^ s.bits) 0) h1 seen0 left_at words0 (ap (λ (z : ℕ). words_in z s c.bring-left.new.seat.me.0) same) cleared c.bring-left.ensures.brings in
    let same1 : c.bring-left.new.draft.base ≡ base = c.bring-left.ensures.base ∙ same in
    let seen1 = beside_seen _ s _ _ c.bring-left.ensures.view ∙ seen0 in
    let inside = c.requires.node in let twin = twice s.bits in (omega (arith, c.decreases), (lives.0, (lives.1, (subst (λ (z : ℕ). MayBring f c.bring-left.new.seat.table_id c.args.self.now.table c.args.records z s c.bring-left.new.seat.me) (sym c.bring-left.ensures.base) c.bring-left.ensures.may, (omega arith, (subst (λ (z : Book × ℕ). NamesEntry z.0 z.1 (get_or five 1 0)) (λ i. (sym seen1 i, sym right_at i)) (right_named g.A.Monoid.parts g.B.Monoid.parts s m.room book b q named.index inner named.entry five named.at says), (left.noted ∙ length-set h (q - 2 ^ s.bits) 0 ∙ c.requires.noted, below_same s m.room f book _ _ (right_of s q) _ w1 _ h1 (sym seen1) (sym right_at) (ap (λ (z : ℕ). words_in z s c.bring-left.new.seat.me.0) (sym same1)) refl (right_below s m.room f book q inner w h c.requires.below w1 h1 left))))))))

pub returns-then-right : goal.returns-then-right
returns-then-right g t c =
    let s : Shape = c.args.self.now.shape in let leaves = leaves_are _ _ _ s _ _ c.self.invariant (ap (λ (z : Store). z.shape) c.self.view_is) in let m = c.requires.may in let f = face g.A.Monoid.parts g.B.Monoid.parts in let v : SeatView = c.args.seat.now.me.0 in let base : ℕ = c.args.draft.now.base in let q : ℕ = c.args.node in
    let book : Book = v.seen in let b : IsBook f s book = subst (λ (z : Shape). IsBook f z book) m.shaped m.knows.book in let named = c.requires.named in
    let past = c.if-node-leaves.false in let inner : IsInner s q = record { past_leaves = omega arith; inside = c.requires.node } in let number : named.entry.number ≡ c.args.word = numbered_in f s v q c.args.word m.shaped m.keeps_records m.knows inner named in
    let h : List ℕ = c.args.draft.now.shown.items in let five : List ℕ = c.load_record-five.result in let w : List ℕ = words_in base s v in
    let says : (field : ℕ) → field < record_words → get_or five field 0 ≡ get_or named.entry.words field 0 = λ field low. c.load_record-five.ensures.says field low q named.index named.entry record { inner = subst (λ (z : Shape). IsInner z q) (sym m.shaped) inner; at = named.at; covers = inl m.keeps_records } number in
    let slot : q - (c.self.inside.lanes / 2 + 1) ≡ q - 2 ^ s.bits = omega arith in let left_at : 2 * (q - (c.self.inside.lanes / 2 + 1)) ≡ left_of s q = omega arith in let right_at : 2 * (q - (c.self.inside.lanes / 2 + 1)) + 1 ≡ right_of s q = omega arith in
    let same : c.passes.new.self.base ≡ base = c.passes.ensures.base in
    let cleared : set c.passes.new.self.shown.items (q - (c.self.inside.lanes / 2 + 1)) 0 ≡ set h (q - 2 ^ s.bits) 0 = λ i. set ((ap (λ z. z.items) c.passes.ensures.shown) i) (slot i) 0 in
    let seen0 = beside_seen c.passes.new.self.base s v c.load_record-five.new.seat.me.0 c.load_record-five.ensures.view in
    let words0 : words_in c.passes.new.self.base s c.load_record-five.new.seat.me.0 ≡ w = λ i. table_part (same i) (word_count s) (c.load_record-five.ensures.same i) in
    let w1 : List ℕ = words_in base s c.bring-left.new.seat.me.0 in let h1 : List ℕ = c.bring-left.new.draft.shown.items in
    let left : Brings f s book (level_of s (left_of s q)) (place_on s (left_of s q)) w w1 (set h (q - 2 ^ s.bits) 0) h1 = brings_same s m.room f book _ _ (left_of s q) _ _ w w1 _ (set h (q - 2 ^ s.bits) 0) h1 seen0 left_at words0 (ap (λ (z : ℕ). words_in z s c.bring-left.new.seat.me.0) same) cleared c.bring-left.ensures.brings in
    let same1 : c.bring-left.new.draft.base ≡ base = c.bring-left.ensures.base ∙ same in
    let seen1 = beside_seen _ s _ _ c.bring-left.ensures.view ∙ seen0 in
    let w2 : List ℕ = words_in base s c.bring-right.new.seat.me.0 in let h2 : List ℕ = c.bring-right.new.draft.shown.items in
    let right : Brings f s book (level_of s (right_of s q)) (place_on s (right_of s q)) w1 w2 h1 h2 = brings_same s m.room f book _ _ (right_of s q) _ _ w1 w2 _ h1 h2 seen1 right_at (ap (λ (z : ℕ). words_in z s c.bring-left.new.seat.me.0) same1) (ap (λ (z : ℕ). words_in z s c.bring-right.new.seat.me.0) same1) refl c.bring-right.ensures.brings in
    let slots : q - 2 ^ s.bits < length h = (let long = c.requires.noted in let inside = c.requires.node in let t = twice s.bits in omega arith) in
    let same2 : c.bring-right.new.draft.base ≡ base = c.bring-right.ensures.base ∙ same1 in
    let w3 : List ℕ = words_in base s c.lay_node.new.seat.me.0 in let lays : LaysNode s q (next_record s q five) w2 w3 = subst (λ (z : ℕ). LaysNode s q (next_record s q five) (words_in z s c.bring-right.new.seat.me.0) (words_in z s c.lay_node.new.seat.me.0)) same2 c.lay_node.ensures.lays in
    let wide = part_words base s _ _ c.args.seat.now.me m.may in
    let as_left : IsLaidAs f s book (left_of s q) (get_or five 0 0) w1 = laid_same s m.room f book _ _ (left_of s q) _ (get_or five 0 0) _ w1 seen0 left_at refl (ap (λ (z : ℕ). words_in z s c.bring-left.new.seat.me.0) same) (c.bring-left.ensures.done c.if-left.true) in
    let as_right : IsLaidAs f s book (right_of s q) (get_or five 1 0) w2 = laid_same s m.room f book _ _ (right_of s q) _ (get_or five 1 0) _ w2 seen1 right_at refl (ap (λ (z : ℕ). words_in z s c.bring-right.new.seat.me.0) same1) (c.bring-right.ensures.done c.if-right.true) in
    let below = c.requires.below in
    let laid = node_laid g.A.Monoid.parts g.B.Monoid.parts s m.room book b q named.index inner named.entry five named.at says (subst (λ (z : Shape). NamesOnce z book) m.shaped (m.knows.in_round m.keeps_records).0) (subst (λ (z : Shape). HasFewSerials z book) m.shaped (few_serials v.shape book m.knows.laid_out (m.knows.in_round m.keeps_records).1)) c.args.word named.named w h w1 h1 w2 h2 w3 below left right slots lays wide as_left as_right in
    let two : StepsBeside base s v c.bring-right.new.seat.me.0 = beside_on base s _ _ _ (beside_on base s _ _ _ (subst (λ (z : ℕ). StepsBeside z s v c.load_record-five.new.seat.me.0) c.passes.ensures.base c.load_record-five.ensures.view)
    (subst (λ (z : ℕ). StepsBeside z s c.load_record-five.new.seat.me.0 c.bring-left.new.seat.me.0) c.passes.ensures.base c.bring-left.ensures.view)) (subst (λ (z : ℕ). StepsBeside z s c.bring-left.new.seat.me.0 c.bring-right.new.seat.me.0) (c.bring-left.ensures.base ∙ c.passes.ensures.base) c.bring-right.ensures.view) in
    let was = subst (λ (z : ℕ). MayBring f c.bring-right.new.seat.table_id c.args.self.now.table c.args.records z s c.bring-right.new.seat.me) same1 c.bring-right.ensures.may in
    let last = subst (λ (z : ℕ). StepsBeside z s c.bring-right.new.seat.me.0 c.lay_node.new.seat.me.0) same2 (beside_stored _ s _ _ c.lay_node.ensures.changes) in record {
      may = brings_on base s f _ _ _ c.args.records _ _ was (c.lay_node.ensures.may.seated ∙ sym was.may.seated) c.lay_node.ensures.may.no_slot last;
      base = same2;
      view = beside_on base s _ _ _ two last;
      brings = subst (λ (z : ℕ). Brings f s book (level_of s q) (place_on s q) w w3 h (set h2 z (c.args.word + 1))) (sym slot) (brings_node s m.room f book q inner w h below w1 h1 left w2 h2 right slots (next_record s q five) w3 lays wide c.args.word laid);
      done = λ _. laid;
      all = λ none. let p = c.passes.ensures.unbounded none in let l = c.bring-left.ensures.all p.1 in (refl, (c.bring-right.ensures.all l.1).1);
    }

pub returns-else-left-clause-view : goal.returns-else-left-clause-view
returns-else-left-clause-view g t c =
    let s : Shape = c.args.self.now.shape in let leaves = leaves_are _ _ _ s _ _ c.self.invariant (ap (λ (z : Store). z.shape) c.self.view_is) in let m = c.requires.may in let f = face g.A.Monoid.parts g.B.Monoid.parts in let v : SeatView = c.args.seat.now.me.0 in let base : ℕ = c.args.draft.now.base in let q : ℕ = c.args.node in
    let two : StepsBeside base s v c.bring-right.new.seat.me.0 = beside_on base s _ _ _ (beside_on base s _ _ _ (subst (λ (z : ℕ). StepsBeside z s v c.load_record-five.new.seat.me.0) c.passes.ensures.base c.load_record-five.ensures.view)
    (subst (λ (z : ℕ). StepsBeside z s c.load_record-five.new.seat.me.0 c.bring-left.new.seat.me.0) c.passes.ensures.base c.bring-left.ensures.view)) (subst (λ (z : ℕ). StepsBeside z s c.bring-left.new.seat.me.0 c.bring-right.new.seat.me.0) (c.bring-left.ensures.base ∙ c.passes.ensures.base) c.bring-right.ensures.view) in
    two

pub returns-else-left-clause-brings : goal.returns-else-left-clause-brings
returns-else-left-clause-brings g t c =
    let s : Shape = c.args.self.now.shape in let leaves = leaves_are _ _ _ s _ _ c.self.invariant (ap (λ (z : Store). z.shape) c.self.view_is) in let m = c.requires.may in let f = face g.A.Monoid.parts g.B.Monoid.parts in let v : SeatView = c.args.seat.now.me.0 in let base : ℕ = c.args.draft.now.base in let q : ℕ = c.args.node in
    let book : Book = v.seen in let b : IsBook f s book = subst (λ (z : Shape). IsBook f z book) m.shaped m.knows.book in let named = c.requires.named in
    let past = c.if-node-leaves.false in let inner : IsInner s q = record { past_leaves = omega arith; inside = c.requires.node } in let number : named.entry.number ≡ c.args.word = numbered_in f s v q c.args.word m.shaped m.keeps_records m.knows inner named in
    let h : List ℕ = c.args.draft.now.shown.items in let five : List ℕ = c.load_record-five.result in let w : List ℕ = words_in base s v in
    let says : (field : ℕ) → field < record_words → get_or five field 0 ≡ get_or named.entry.words field 0 = λ field low. c.load_record-five.ensures.says field low q named.index named.entry record { inner = subst (λ (z : Shape). IsInner z q) (sym m.shaped) inner; at = named.at; covers = inl m.keeps_records } number in
    let slot : q - (c.self.inside.lanes / 2 + 1) ≡ q - 2 ^ s.bits = omega arith in let left_at : 2 * (q - (c.self.inside.lanes / 2 + 1)) ≡ left_of s q = omega arith in let right_at : 2 * (q - (c.self.inside.lanes / 2 + 1)) + 1 ≡ right_of s q = omega arith in
    let same : c.passes.new.self.base ≡ base = c.passes.ensures.base in
    let cleared : set c.passes.new.self.shown.items (q - (c.self.inside.lanes / 2 + 1)) 0 ≡ set h (q - 2 ^ s.bits) 0 = λ i. set ((ap (λ z. z.items) c.passes.ensures.shown) i) (slot i) 0 in
    let seen0 = beside_seen c.passes.new.self.base s v c.load_record-five.new.seat.me.0 c.load_record-five.ensures.view in
    let words0 : words_in c.passes.new.self.base s c.load_record-five.new.seat.me.0 ≡ w = λ i. table_part (same i) (word_count s) (c.load_record-five.ensures.same i) in
    let w1 : List ℕ = words_in base s c.bring-left.new.seat.me.0 in let h1 : List ℕ = c.bring-left.new.draft.shown.items in
    let left : Brings f s book (level_of s (left_of s q)) (place_on s (left_of s q)) w w1 (set h (q - 2 ^ s.bits) 0) h1 = brings_same s m.room f book _ _ (left_of s q) _ _ w w1 _ (set h (q - 2 ^ s.bits) 0) h1 seen0 left_at words0 (ap (λ (z : ℕ). words_in z s c.bring-left.new.seat.me.0) same) cleared c.bring-left.ensures.brings in
    let same1 : c.bring-left.new.draft.base ≡ base = c.bring-left.ensures.base ∙ same in
    let seen1 = beside_seen _ s _ _ c.bring-left.ensures.view ∙ seen0 in
    let w2 : List ℕ = words_in base s c.bring-right.new.seat.me.0 in let h2 : List ℕ = c.bring-right.new.draft.shown.items in
    let right : Brings f s book (level_of s (right_of s q)) (place_on s (right_of s q)) w1 w2 h1 h2 = brings_same s m.room f book _ _ (right_of s q) _ _ w1 w2 _ h1 h2 seen1 right_at (ap (λ (z : ℕ). words_in z s c.bring-left.new.seat.me.0) same1) (ap (λ (z : ℕ). words_in z s c.bring-right.new.seat.me.0) same1) refl c.bring-right.ensures.brings in
    let slots : q - 2 ^ s.bits < length h = (let long = c.requires.noted in let inside = c.requires.node in let t = twice s.bits in omega arith) in
    let same2 : c.bring-right.new.draft.base ≡ base = c.bring-right.ensures.base ∙ same1 in
    brings_halves s m.room f book q inner w h c.requires.below w1 h1 left w2 h2 right slots

pub returns-else-left-clause-all : goal.returns-else-left-clause-all
returns-else-left-clause-all g t c none = let p = c.passes.ensures.unbounded none in let l = c.bring-left.ensures.all p.1 in let r = c.bring-right.ensures.all l.1 in
    ⊎_elim (λ x. absurd (false≢true (sym x.1 ∙ r.0))) (λ x. absurd (false≢true (sym x ∙ l.0))) c.else-left.either

pub lay_node-requires-clause-node : goal.lay_node-requires-clause-node
lay_node-requires-clause-node g t c = let many = leaves_are _ _ _ c.args.self.now.shape _ _ c.self.invariant (ap (λ (z : Store). z.shape) c.self.view_is) in
    inner_by c.args.self.now.shape c.args.node _ many c.if-node-leaves.false c.requires.node

pub index_mut-requires-then-right : goal.index_mut-requires-then-right
index_mut-requires-then-right g t c = let many = leaves_are _ _ _ c.args.self.now.shape _ _ c.self.invariant (ap (λ (z : Store). z.shape) c.self.view_is) in
    let cleared = length-set c.passes.new.self.shown.items (c.args.node - (c.self.inside.lanes / 2 + 1)) 0
    ∙ ap (λ z. length z.items) c.passes.ensures.shown ∙ c.requires.noted in
    slot_in c.args.self.now.shape c.args.node _ _ many c.if-node-leaves.false c.requires.node (c.bring-right.new.draft.shown.ok.0
    ∙ c.bring-right.ensures.brings.noted ∙ c.bring-left.ensures.brings.noted ∙ cleared)
