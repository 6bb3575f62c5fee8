-- What is known of the lanes goes on to account for all that happened.
use Rattle.std.proofs.Common.{◌≡◌, ℕ, ◌+◌, ◌<◌, ◌≤◌, List, [], ◌∷◌, ◌++◌, false, length, length-append, refl, sym, ap, ◌∙◌, subst, arith}
use Rattle.std.specs.Prelude.{All, not, map, flat_map, reverse}
use Rattle.std.specs.List.{sum_by}
use Rattle.std.proofs.lemmas.List.{reverse-append}
use Rattle.std.proofs.lemmas.List.Filters.{length-filter_both}
use Rattle.std.proofs.lemmas.List.Sums.{sum_by-cons}
use Rattle.std.proofs.lemmas.List.Elements.{filter-append, All-append, All-cons, All-head, All-nil, All-tail}
use Rattle.aug_core.specs.Prefixes.{IsPrefix}
use Rattle.aug_core.proofs.Counting.{hits, hits-append}
use Rattle.aug_core.proofs.PrefixLemmas.{prefix_refl}
use Rattle.aug_core.specs.declared.view.Change.{Change}
use Rattle.aug_trie.specs.Chains.{Chapter}
use Rattle.aug_trie.specs.Crew.{CrewFacts}
use Rattle.aug_trie.specs.Knowledge.{inserts_of, removals_of}
use Rattle.aug_live.specs.Ledgers.{Made, dated, made_in}
use Rattle.aug_live.specs.LiveTries.{AreChangesOf, AreCountsOf, Done, LaneKnown, LanesGoOn, lost_of, made_through}
use Rattle.aug_live.specs.declared.counts.LiveCounts.{LiveCounts}
use Rattle.aug_live.specs.declared.known.Whose.{Whose}
use Rattle.aug_live.specs.declared.known.Whose.TheVariants.{Alone, Roller, Free, Idle, Handle, Gone}
use Rattle.aug_live.specs.inside.Desks.{Accounts, handles_of, made_of, missing_of, out_of}
use Rattle.aug_live.specs.inside.LaneKnowledge.{EndFacts, IsWhole, done_if, done_with, lane_by}
use Rattle.aug_live.specs.inside.Rolls.{IsOpenedLane, accepted_by, given, given_all, kept_of}
use Rattle.aug_live.specs.inside.SameChanges.{SameChanges}
use Rattle.aug_live.proofs.Counted.{counts_more, counts_same}
use Rattle.aug_live.proofs.Ledgers.{changes_by, dates-spread, inserts_by, made_in-later, place-dates, place-other, place-same, removals_by, same_append, same_self, same_sym, same_trans, spread-other, spread-same, turned}
use Rattle.aug_live.proofs.Lanes.{lanes_of_kept}
use Rattle.aug_live.proofs.Tied.{done_whole}

module _ {A : Type 0} (P : A → Type 0) where
  -- of a list with one element in another's place
  pub all_at : (a b : List A) (x y : A) → All P (a ++ x ∷ b) → P y → All P (a ++ y ∷ b)
  all_at [] b x y all p = All-cons P y b p (All-tail P x b all)
  all_at (c ∷ a) b x y all p = All-cons P c (a ++ y ∷ b) (All-head P c (a ++ x ∷ b) all) (all_at a b x y (All-tail P c (a ++ x ∷ b) all) p)

  pub all_here : (a b : List A) (x : A) → All P (a ++ x ∷ b) → P x
  all_here [] b x all = All-head P x b all
  all_here (c ∷ a) b x all = all_here a b x (All-tail P c (a ++ x ∷ b) all)

  pub all_reversed : (xs : List A) → All P xs → All P (reverse xs)
  all_reversed [] all = all
  all_reversed (x ∷ xs) all = subst (All P) (sym (reverse-append (x ∷ []) xs)) (All-append P (reverse xs) (x ∷ []) (all_reversed xs (All-tail P x xs all)) (All-cons P x [] (All-head P x xs all) (All-nil P)))

module _ {A B : Type 0} (P : B → Type 0) (f g : A → B) (on : (x : A) → P (f x) → P (g x)) where
  pub all_mapped : (xs : List A) → All P (map f xs) → All P (map g xs)
  all_mapped [] all = All-nil P
  all_mapped (x ∷ xs) all = All-cons P (g x) (map g xs) (on x (All-head P (f x) (map f xs) all)) (all_mapped xs (All-tail P (f x) (map f xs) all))

module _ {A : Type 0} (n : A → ℕ) where
  -- sums, with one element in another's place, and over two lists of the same
  pub sum_at : (a b : List A) (x y : A) → sum_by n (a ++ y ∷ b) + n x ≡ sum_by n (a ++ x ∷ b) + n y
  sum_at [] b x y = let e = sum_by-cons n x b in let f = sum_by-cons n y b in omega arith
  sum_at (c ∷ a) b x y = let r = sum_at a b x y in let e = sum_by-cons n c (a ++ x ∷ b) in let f = sum_by-cons n c (a ++ y ∷ b) in omega arith

  pub sum_here : (a b : List A) (x : A) → n x ≤ sum_by n (a ++ x ∷ b)
  sum_here [] b x = let e = sum_by-cons n x b in omega arith
  sum_here (c ∷ a) b x = let r = sum_here a b x in let e = sum_by-cons n c (a ++ x ∷ b) in omega arith

pub sum_same : {A B C : Type 0} (n : B → ℕ) (m : C → ℕ) (f : A → B) (g : A → C) (xs : List A) → ((x : A) → m (g x) ≡ n (f x)) → sum_by m (map g xs) ≡ sum_by n (map f xs)
sum_same n m f g [] same = refl
sum_same n m f g (x ∷ xs) same = let e = same x in let h = sum_same n m f g xs same in let i = sum_by-cons m (g x) (map g xs) in let j = sum_by-cons n (f x) (map f xs) in omega arith

-- joining what a function gives for each element
pub flat_mapped : {A B C : Type 0} (f : B → List C) (g : A → B) (xs : List A) → flat_map f (map g xs) ≡ flat_map (λ x. f (g x)) xs
flat_mapped f g [] = refl
flat_mapped f g (x ∷ xs) = ap (λ z. f (g x) ++ z) (flat_mapped f g xs)

pub flat_same : {A C : Type 0} (f g : A → List C) (P : A → Type 0) (xs : List A) → ((x : A) → P x → g x ≡ f x) → All P xs → flat_map g xs ≡ flat_map f xs
flat_same f g P [] same all = refl
flat_same f g P (x ∷ xs) same all = (λ i. same x (All-head P x xs all) i ++ flat_map g xs) ∙ ap (λ z. f x ++ z) (flat_same f g P xs same (All-tail P x xs all))

flat_at : (xs ys : List EndFacts) (x y : EndFacts) → y.known.before ≡ x.known.before → made_of (xs ++ y ∷ ys) ≡ made_of (xs ++ x ∷ ys)
flat_at [] ys x y same = ap (λ (z : List Made). z ++ made_of ys) same
flat_at (e ∷ xs) ys x y same = ap (λ (z : List Made). e.known.before ++ z) (flat_at xs ys x y same)

none_made_of : (ports : List EndFacts) → All IsOpenedLane ports → made_of (map kept_of ports) ≡ []
none_made_of [] opened = refl
none_made_of (e ∷ es) opened = (λ i. (All-head IsOpenedLane e es opened).none_back i ++ made_of (map kept_of es)) ∙ none_made_of es (All-tail IsOpenedLane e es opened)

out_first : (e : EndFacts) → IsOpenedLane e → out_of e.known.whose ≡ 1
out_first e o = ap out_of o.whose

each_one : (n : EndFacts → ℕ) → ((e : EndFacts) → IsOpenedLane e → n (kept_of e) ≡ 1) → (ports : List EndFacts) → All IsOpenedLane ports → sum_by n (map kept_of ports) ≡ length ports
each_one n one [] opened = refl
each_one n one (e ∷ es) opened = let x = one e (All-head IsOpenedLane e es opened) in let y = each_one n one es (All-tail IsOpenedLane e es opened) in let z = sum_by-cons n (kept_of e) (map kept_of es) in omega arith

numbered : (most : ℕ) (ports : List EndFacts) → length ports ≤ most → All IsOpenedLane ports → All (λ (e : EndFacts). e.known.number ≤ most) (map kept_of ports)
numbered most [] some opened = All-nil (λ (e : EndFacts). e.known.number ≤ most)
numbered most (e ∷ es) some opened = All-cons (λ (x : EndFacts). x.known.number ≤ most) (kept_of e) (map kept_of es) (let n = (All-head IsOpenedLane e es opened).number in omega arith) (numbered most es (omega arith) (All-tail IsOpenedLane e es opened))

-- the accounts of lanes whose first handles are out
pub accounts_opened : (bits : ℕ) (counts : LiveCounts) (crew : CrewFacts) (ports : List EndFacts) → All IsOpenedLane ports → crew.past ≡ [] → crew.knows.accepted ≡ [] → counts.rounds ≡ 1 → counts.inserts ≡ 0 → counts.removals ≡ 0
    → counts.handles ≡ length ports → counts.missing ≡ length ports → Accounts bits counts crew (map kept_of ports)
accounts_opened bits counts crew ports opened past none rounds inserts removals handles missing =
    let made : made_of (map kept_of ports) ≡ [] = none_made_of ports opened in record {
      past = subst (λ (z : List Chapter). AreCountsOf bits z (made_of (map kept_of ports)) counts.inserts counts.removals) (sym past) (record { all = tt; inserts_are = inserts; removals_are = removals });
      now = subst (λ (z : List Change × List Made). SameChanges z.0 (made_in counts.rounds z.1)) (λ i. (sym none i, sym made i)) (same_self []);
      dates = subst (All (λ (m : Made). m.0 ≤ counts.rounds)) (sym made) (λ k d low. absurd (omega arith));
      handles = handles ∙ sym (each_one handles_of (λ e o. let x = out_first e o in let y = ap length o.none_done in omega arith) ports opened);
      missing = missing ∙ sym (each_one missing_of (λ e o. let x = out_first e o in let y = ap (λ (z : List Done). length (lost_of z)) o.none_done in omega arith) ports opened);
      numbers = numbered counts.handles ports (omega arith) opened;
    }

-- the same lanes, where their crew knows the same of them
pub accounts_kept : (bits : ℕ) (counts : LiveCounts) (crew crew' : CrewFacts) (lanes lanes' : List EndFacts) → crew'.past ≡ crew.past → crew'.knows.accepted ≡ crew.knows.accepted → lanes' ≡ lanes → Accounts bits counts crew lanes → Accounts bits counts crew' lanes'
accounts_kept bits counts crew crew' lanes lanes' past accepted same a = record {
  past = subst (λ (z : List Chapter × List EndFacts). AreCountsOf bits z.0 (made_of z.1) counts.inserts counts.removals) (λ i. (sym past i, sym same i)) a.past;
  now = subst (λ (z : List Change × List EndFacts). SameChanges z.0 (made_in counts.rounds (made_of z.1))) (λ i. (sym accepted i, sym same i)) a.now;
  dates = subst (λ (z : List EndFacts). All (λ (m : Made). m.0 ≤ counts.rounds) (made_of z)) (sym same) a.dates;
  handles = a.handles ∙ ap (sum_by handles_of) (sym same);
  missing = a.missing ∙ ap (sum_by missing_of) (sym same);
  numbers = subst (All (λ (e : EndFacts). e.known.number ≤ counts.handles)) (sym same) a.numbers;
}

-- one of the lanes has another end
module _ (bits : ℕ) (counts : LiveCounts) (crew crew' : CrewFacts) (xs ys : List EndFacts) (x y : EndFacts) (past : crew'.past ≡ crew.past) (a : Accounts bits counts crew (xs ++ x ∷ ys)) where
  abbrev was : List EndFacts
  was = xs ++ x ∷ ys

  abbrev is : List EndFacts
  is = xs ++ y ∷ ys

  -- its pass went back, which had accepted these changes
  pub accounts_given : (changes : List Change) (e : EndFacts) → x ≡ kept_of e → y ≡ given changes e → e.known.at.era ≡ counts.rounds → counts.rounds ≡ length crew.past + 1 → crew'.knows.accepted ≡ crew.knows.accepted ++ changes → Accounts bits counts crew' is
  accounts_given changes e kept given_is era rounds accepted =
      let f = λ (e : EndFacts). e.known.before in
      let more : f y ≡ f x ++ dated counts.rounds changes = ap f given_is ∙ (λ i. f (sym kept i) ++ dated (era i) changes) in
      let handles_is : handles_of y ≡ handles_of x = ap handles_of given_is ∙ ap handles_of (sym kept) in let missing_is : missing_of y ≡ missing_of x = ap missing_of given_is ∙ ap missing_of (sym kept) in
      let number : y.known.number ≡ x.known.number = ap (λ (e : EndFacts). e.known.number) given_is ∙ ap (λ (e : EndFacts). e.known.number) (sym kept) in
      let off = λ (e : ℕ) (low : e ≤ length crew.past). place-other f xs ys x y e counts.rounds changes (λ same. let never : ⊥ = omega arith in never) more in record {
        past = subst (λ (z : List Chapter). AreCountsOf bits z (made_of is) counts.inserts counts.removals) (sym past) (counts_same bits crew.past (made_of was) (made_of is) counts.inserts counts.removals off a.past);
        now = subst (λ (z : List Change). SameChanges z (made_in counts.rounds (made_of is))) (sym accepted)
            (same_trans _ _ _ (same_append _ _ _ _ a.now (same_self changes)) (same_sym _ _ (place-same f xs ys x y counts.rounds changes more)));
        dates = place-dates f xs ys x y counts.rounds changes more a.dates;
        handles = let s = sum_at handles_of xs ys x y in let was_handles = a.handles in omega arith;
        missing = let s = sum_at missing_of xs ys x y in let was_missing = a.missing in omega arith;
        numbers = all_at (λ (e : EndFacts). e.known.number ≤ counts.handles) xs ys x y a.numbers (subst (λ (n : ℕ). n ≤ counts.handles) (sym number) (all_here (λ (e : EndFacts). e.known.number ≤ counts.handles) xs ys x a.numbers));
      }

  -- nothing else was made through it, but its handles are others
  module _ (counts' : LiveCounts) (before : y.known.before ≡ x.known.before) (accepted : crew'.knows.accepted ≡ crew.knows.accepted) where
    pub accounts_handles : counts'.rounds ≡ counts.rounds → counts'.inserts ≡ counts.inserts → counts'.removals ≡ counts.removals → counts.handles ≤ counts'.handles → y.known.number ≤ counts'.handles
        → counts'.handles + handles_of x ≡ counts.handles + handles_of y → counts'.missing + missing_of x ≡ counts.missing + missing_of y → Accounts bits counts' crew' is
    accounts_handles rounds inserts removals more number handles missing =
        let made : made_of is ≡ made_of was = flat_at xs ys x y before in record {
          past = subst (λ (z : (List Chapter × List Made) × (ℕ × ℕ)). AreCountsOf bits z.0.0 z.0.1 z.1.0 z.1.1) (λ i. ((sym past i, sym made i), (sym inserts i, sym removals i))) a.past;
          now = subst (λ (z : List Change × (ℕ × List Made)). SameChanges z.0 (made_in z.1.0 z.1.1)) (λ i. (sym accepted i, (sym rounds i, sym made i))) a.now;
          dates = subst (λ (z : ℕ × List Made). All (λ (m : Made). m.0 ≤ z.0) z.1) (λ i. (sym rounds i, sym made i)) a.dates;
          handles = let s = sum_at handles_of xs ys x y in let was_handles = a.handles in omega arith;
          missing = let s = sum_at missing_of xs ys x y in let was_missing = a.missing in omega arith;
          numbers = all_at (λ (e : EndFacts). e.known.number ≤ counts'.handles) xs ys x y (λ k d low. let n = a.numbers k d low in omega arith) number;
        }

same_flat_reverse : {A : Type 0} (h : A → List Change) (xs : List A) → SameChanges (flat_map h (reverse xs)) (flat_map h xs)
same_flat_reverse h [] test = refl
same_flat_reverse h (x ∷ xs) test =
    let last = ap (λ (z : List Change). hits test z) (turned h x xs) ∙ hits-append test (flat_map h (reverse xs)) (h x) in
    let first = hits-append test (h x) (flat_map h xs) in let rest = same_flat_reverse h xs test in omega arith

-- the end of a lane whose passes are back, once all of its handles are done
abbrev pub closed_lane : EndFacts → LaneKnown
closed_lane e = record { id = e.lock; number = e.known.number; is_out = false; done = done_with e.known e.known.at }

done_more : (x : Whose) (done : List Done) (own : List Made) → IsPrefix done (done_if x done own)
done_more Roller done own = ((false, own) ∷ [], refl)
done_more Alone done own = prefix_refl done
done_more Free done own = prefix_refl done
done_more Idle done own = prefix_refl done
done_more Handle done own = prefix_refl done
done_more Gone done own = prefix_refl done

done_count : (x : Whose) (done : List Done) (own : List Made) → length (done_if x done own) ≡ length done + out_of x
done_count Roller done own = length-append done ((false, own) ∷ [])
done_count Alone done own = omega arith
done_count Free done own = omega arith
done_count Idle done own = omega arith
done_count Handle done own = omega arith
done_count Gone done own = omega arith

lost_count : (x : Whose) (done : List Done) (own : List Made) → length (lost_of (done_if x done own)) ≡ length (lost_of done) + out_of x
lost_count Roller done own = ap length (filter-append (λ (d : Done). not d.0) done ((false, own) ∷ [])) ∙ length-append (lost_of done) ((false, own) ∷ [])
lost_count Alone done own = omega arith
lost_count Free done own = omega arith
lost_count Idle done own = omega arith
lost_count Handle done own = omega arith
lost_count Gone done own = omega arith

lanes_done : (es : List EndFacts) → LanesGoOn (map lane_by es) (map closed_lane es)
lanes_done [] = tt
lanes_done (e ∷ es) = (record { id = refl; number = omega arith; done = done_more e.known.whose e.known.done _ }, lanes_done es)

pub lanes_close : (ports es : List EndFacts) → map kept_of es ≡ map kept_of ports → LanesGoOn (map lane_by ports) (map closed_lane es)
lanes_close ports es same = subst (λ (z : List LaneKnown). LanesGoOn z (map closed_lane es)) (sym (lanes_of_kept es) ∙ ap (map lane_by) same ∙ lanes_of_kept ports) (lanes_done es)

-- the passes of a round are back, in this order, and what they accepted is counted to what was made through their lanes
module _ (bits : ℕ) (counts : LiveCounts) (crew last : CrewFacts) (ports back : List EndFacts) (a : Accounts bits counts crew (map kept_of ports)) (kept : map kept_of (reverse back) ≡ map kept_of ports)
    (eras : All (λ (e : EndFacts). e.known.at.era ≡ counts.rounds) (reverse back)) (rounds : counts.rounds ≡ length crew.past + 1) (accepted : last.knows.accepted ≡ crew.knows.accepted ++ flat_map accepted_by back) where
  abbrev es : List EndFacts
  es = reverse back

  abbrev f : EndFacts → List Made
  f e = e.known.before

  abbrev all : List Made
  all = flat_map (λ (e : EndFacts). f e ++ dated counts.rounds (accepted_by e)) es

  made_was : made_of (map kept_of ports) ≡ flat_map f es
  made_was = ap made_of (sym kept) ∙ flat_mapped f kept_of es

  pub past_counted : AreCountsOf bits crew.past all counts.inserts counts.removals
  past_counted = counts_same bits crew.past (made_of (map kept_of ports)) all counts.inserts counts.removals
      (λ e low. spread-other f accepted_by e counts.rounds (λ same. let never : ⊥ = omega arith in never) es ∙ ap (made_in e) (sym made_was)) a.past

  pub now_counted : SameChanges last.knows.accepted (made_in counts.rounds all)
  now_counted = subst (λ (z : List Change). SameChanges z (made_in counts.rounds all)) (sym accepted)
      (same_trans _ _ _ (same_append _ _ _ _ (subst (λ (z : List Made). SameChanges crew.knows.accepted (made_in counts.rounds z)) made_was a.now) (same_sym _ _ (same_flat_reverse accepted_by back)))
      (same_sym _ _ (spread-same f accepted_by counts.rounds es)))

  pub dates_counted : All (λ (m : Made). m.0 ≤ counts.rounds) all
  dates_counted = dates-spread f accepted_by counts.rounds es (subst (All (λ (m : Made). m.0 ≤ counts.rounds)) made_was a.dates)

  -- they lie in the lanes again, in the next round
  pub accounts_rolled : (next : CrewFacts) (counts' : LiveCounts) (over : Chapter) (lanes : List EndFacts) → lanes ≡ map given_all es → next.past ≡ crew.past ++ over ∷ [] → next.knows.accepted ≡ [] → AreChangesOf bits over last.knows.accepted
      → counts'.rounds ≡ counts.rounds + 1 → counts'.inserts ≡ counts.inserts + inserts_of last.knows.accepted → counts'.removals ≡ counts.removals + removals_of last.knows.accepted → counts'.handles ≡ counts.handles → counts'.missing ≡ counts.missing
      → Accounts bits counts' next lanes
  accounts_rolled next counts' over lanes lanes_are past none happened rounds' inserts removals handles missing =
      let given_made : made_of (map given_all es) ≡ all = flat_mapped f given_all es ∙ flat_same (λ (e : EndFacts). f e ++ dated counts.rounds (accepted_by e)) (λ (e : EndFacts). f (given_all e)) (λ (e : EndFacts). e.known.at.era ≡ counts.rounds) es
      (λ e era. ap (λ (n : ℕ). f e ++ dated n (accepted_by e)) era) eras in
      let made : made_of lanes ≡ all = ap made_of lanes_are ∙ given_made in
      let here : length crew.past + 1 ≡ counts.rounds = sym rounds in
      let now = subst (λ (n : ℕ). SameChanges last.knows.accepted (made_in n all)) rounds now_counted in
      let counted = counts_more bits crew.past over all counts.inserts counts.removals counts'.inserts counts'.removals past_counted (changes_by bits over _ _ now happened)
      (inserts ∙ ap (λ (n : ℕ). counts.inserts + n) (inserts_by _ _ now)) (removals ∙ ap (λ (n : ℕ). counts.removals + n) (removals_by _ _ now)) in record {
        past = subst (λ (z : List Chapter × List Made). AreCountsOf bits z.0 z.1 counts'.inserts counts'.removals) (λ i. (sym past i, sym made i)) counted;
        now = subst (λ (z : List Change × List Made). SameChanges z.0 (made_in counts'.rounds z.1)) (λ i. (sym none i, sym made i))
            (subst (λ (z : List Change). SameChanges [] z) (sym (made_in-later counts'.rounds all (subst (λ (n : ℕ). All (λ (m : Made). m.0 < n) all) (sym rounds') (λ k d low. let date = dates_counted k d low in omega arith)))) (same_self []));
        dates = subst (λ (z : List Made). All (λ (m : Made). m.0 ≤ counts'.rounds) z) (sym made) (λ k d low. let date = dates_counted k d low in omega arith);
        handles = handles ∙ a.handles ∙ ap (sum_by handles_of) (sym kept) ∙ sym (ap (sum_by handles_of) lanes_are ∙ sum_same handles_of handles_of kept_of given_all es (λ e. refl));
        missing = missing ∙ a.missing ∙ ap (sum_by missing_of) (sym kept) ∙ sym (ap (sum_by missing_of) lanes_are ∙ sum_same missing_of missing_of kept_of given_all es (λ e. refl));
        numbers = subst (All (λ (e : EndFacts). e.known.number ≤ counts'.handles)) (sym lanes_are)
            (all_mapped (λ (e : EndFacts). e.known.number ≤ counts'.handles) kept_of given_all (λ e low. low) es (subst (All (λ (e : EndFacts). e.known.number ≤ counts'.handles)) (sym kept) (λ k d low. let n = a.numbers k d low in omega arith)));
      }

  -- the trie is closed: what was made through the handles is what was made, and they are counted
  module _ (wholes : All (λ (e : EndFacts). IsWhole e.known e.known.at) es) where
    pub made_closed : flat_map (λ (lane : LaneKnown). made_through lane.done) (map closed_lane es) ≡ all
    made_closed = flat_mapped (λ (lane : LaneKnown). made_through lane.done) closed_lane es
        ∙ flat_same (λ (e : EndFacts). f e ++ dated counts.rounds (accepted_by e)) (λ (e : EndFacts). made_through (done_with e.known e.known.at)) (λ (e : EndFacts). IsWhole e.known e.known.at × (e.known.at.era ≡ counts.rounds)) es
        (λ e is. sym (done_whole e.known e.known.at is.0) ∙ ap (λ (n : ℕ). f e ++ dated n (accepted_by e)) is.1) (λ k d low. (wholes k d low, eras k d low))

  pub handles_closed : counts.handles ≡ sum_by (λ (lane : LaneKnown). length lane.done) (map closed_lane es)
  handles_closed = a.handles ∙ ap (sum_by handles_of) (sym kept) ∙ sym (sum_same handles_of (λ (lane : LaneKnown). length lane.done) kept_of closed_lane es (λ e. done_count e.known.whose e.known.done _))

  pub missing_closed : counts.missing ≡ sum_by (λ (lane : LaneKnown). length (lost_of lane.done)) (map closed_lane es)
  missing_closed = a.missing ∙ ap (sum_by missing_of) (sym kept) ∙ sym (sum_same missing_of (λ (lane : LaneKnown). length (lost_of lane.done)) kept_of closed_lane es (λ e. lost_count e.known.whose e.known.done _))

-- the handles of lanes are those that are done and at most one more each, and no more are missing
one_out : (w : Whose) → out_of w ≤ 1
one_out Alone = omega arith
one_out Roller = omega arith
one_out Free = omega arith
one_out Idle = omega arith
one_out Handle = omega arith
one_out Gone = omega arith

pub few_handles : (lanes : List EndFacts) → sum_by handles_of (map kept_of lanes) ≤ sum_by (λ (l : LaneKnown). length l.done) (map lane_by lanes) + length (map lane_by lanes)
few_handles [] = omega arith
few_handles (x ∷ xs) =
    let r = few_handles xs in let e = sum_by-cons handles_of (kept_of x) (map kept_of xs) in let f = sum_by-cons (λ (l : LaneKnown). length l.done) (lane_by x) (map lane_by xs) in let o = one_out x.known.whose in omega arith

pub few_missing : (lanes : List EndFacts) → sum_by missing_of lanes ≤ sum_by handles_of lanes
few_missing [] = omega arith
few_missing (x ∷ xs) =
    let r = few_missing xs in let e = sum_by-cons missing_of x xs in let f = sum_by-cons handles_of x xs in let l = length-filter_both (λ (d : Done). d.0) (λ (d : Done). not d.0) (λ d. refl) x.known.done in omega arith
