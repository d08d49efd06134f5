-- Laws of the loops: a turn, a turn that refuses, and the end; of counts by key; of tests that say the same.
use Prim.Native.Nat.{ℕ, zero, suc, ◌+◌, ◌-◌, ◌*◌, ◌/◌, ◌≤◌, ◌<◌}
use native.Mathlib.Omega.{arith}
use native.Mathlib.Numerals.{add-one}
use mathlib.Core.Path.{◌≡◌, refl, sym, ap, ◌∙◌}
use mathlib.Core.Bool.{Bool, true, false, cond, ◌&&◌, and_assoc, and-true}
use mathlib.Core.List.{List, [], ◌∷◌, ◌++◌}
use lib.ListN.{length, get_or, take, drop, set, replicate, length-set, length-replicate, get_or-replicate, drop_of_length-le}
use lib.Seq.{drop-cons, get_or-set_same, get_or-set_other}
use lib.Dec.{eqb, leb, ltb}
use borrow.Author.Tests.{eqb-true, eqb-false, ne_eqb}
use Rattle.std.proofs.lemmas.Bool.Decides.{nat_tests}
use Rattle.std.specs.List.{list_all, range_with_len}
use Rattle.std.proofs.lemmas.List.{take_more}
use Rattle.record.specs.Part.{part}
use Rattle.record.specs.Rows.{keep, cons_if}
use Rattle.rules.specs.Sound.{every, up_to, zeros, serving, times}
use Rattle.rules.proofs.Walks.{up_to_alike}
use Rattle.pagetable.specs.Tally.{count, Tallied}

every_push : (b : ℕ → Bool) (l : List ℕ) (x : ℕ) → every b (l ++ x ∷ []) ≡ (every b l && b x)
unfolding every
every_push b [] x = and-true (b x)
every_push b (y ∷ l) x = ap (λ (t : Bool). b y && t) (every_push b l x) ∙ sym (and_assoc (b y) (every b l) (b x))

-- `every` of no element yet, and of one more
pub every_first : (b : ℕ → Bool) → every b [] ≡ true
unfolding every
every_first b = refl

pub every_next : (b : ℕ → Bool) (l : List ℕ) (i : ℕ) → i < length l → every b (take (i + 1) l) ≡ (every b (take i l) && b (get_or l i 0))
every_next b l i h = rw (take_more l i 0 h) (every_push b (take i l) (get_or l i 0))

-- `all` over the numbers from i on
pub up_to_list : (b : ℕ → Bool) (n i : ℕ) → list_all b (range_with_len i n) ≡ up_to b n i
unfolding up_to
up_to_list b zero i = refl
up_to_list b (suc n) i = ap (λ (x : Bool). b i && x) (up_to_list b n (i + 1))

-- tests that agree
pub every_same : (a b : ℕ → Bool) → ((x : ℕ) → a x ≡ b x) → (l : List ℕ) → every a l ≡ every b l
unfolding every
every_same a b h [] = refl
every_same a b h (x ∷ l) = rw (h x, every_same a b h l)

-- an order of numbers as an equation
pub ltb_eqb : (x : ℕ) → ltb x 1 ≡ eqb x 0
ltb_eqb x = grind (arith, nat_tests)

-- counts by key
count_cons : (share : ℕ) (k x : ℕ) (l : List ℕ) → count share k (x ∷ l) ≡ cond (eqb (x / share) k) 1 0 + count share k l
unfolding count keep
count_cons share k x l = go (eqb (x / share) k)
  where
    go : (t : Bool) → length (cons_if t x (keep (λ (b : ℕ). eqb (b / share) k) l)) ≡ cond t 1 0 + length (keep (λ (b : ℕ). eqb (b / share) k) l)
    go true = omega arith
    go false = omega arith

bit : (t : Bool) → cond t 1 0 ≤ 1
bit true = omega arith
bit false = omega arith

pub count_le : (share : ℕ) (k : ℕ) (l : List ℕ) → count share k l ≤ length l
unfolding count keep
count_le share k [] = omega arith
count_le share k (x ∷ l) = omega (arith, count_cons share k x l, bit (eqb (x / share) k), count_le share k l)

count_turn : (share : ℕ) (k : ℕ) (l : List ℕ) (i : ℕ) → i < length l → count share k (drop i l) ≡ cond (eqb (get_or l i 0 / share) k) 1 0 + count share k (drop (i + 1) l)
count_turn share k l i h = rw (add-one, drop-cons l i 0 h) (count_cons share k (get_or l i 0) (drop (suc i) l))

-- i bytes are counted, those whose key is less than the least passed over
pub record Tallying (share : ℕ) (least : ℕ) (l : List ℕ) (i : ℕ) (a : List ℕ) : Type 0 where
  pub size : length a ≡ 256
  pub slot : (k : ℕ) → least ≤ k → k < 256 → get_or a k 0 + count share k (drop i l) ≡ count share k l

pub tally_none : (share : ℕ) (least : ℕ) (l : List ℕ) → Tallying share least l 0 (replicate 256 0)
tally_none share least l =
    record {
      size = length-replicate {A = ℕ} 256 0;
      slot = λ k g h. let e : get_or {A = ℕ} (replicate 256 0) k 0 ≡ 0 = get_or-replicate {A = ℕ} 256 k 0 0 h in omega arith;
    }

slot_turn : (t : Bool) (a : List ℕ) (k j c d n : ℕ) → eqb k j ≡ t → k < length a → get_or a j 0 + c ≡ n → c ≡ cond t 1 0 + d → get_or (set a k (get_or a k 0 + 1)) j 0 + d ≡ n
slot_turn true a k j c d n e h p q =
    let s : k ≡ j = eqb-true k j e in
    let v : get_or (set a k (get_or a k 0 + 1)) k 0 ≡ get_or a k 0 + 1 = get_or-set_same a k (get_or a k 0 + 1) 0 h in
    rw (← s) (omega (arith, v, rw (← s) at p))
slot_turn false a k j c d n e h p q =
    let v : get_or (set a k (get_or a k 0 + 1)) j 0 ≡ get_or a j 0 = get_or-set_other a k j (get_or a k 0 + 1) 0 (λ s. eqb-false k j e (sym s)) in
    omega arith

pub tally_turn : (share : ℕ) (least : ℕ) (l : List ℕ) (i : ℕ) (a : List ℕ) (k : ℕ) → i < length l → k ≡ get_or l i 0 / share → k < 256 → Tallying share least l i a → Tallying share least l (i + 1) (set a k (get_or a k 0 + 1))
tally_turn share least l i a k h e p t =
    record {
      size = length-set a k (get_or a k 0 + 1) ∙ t.size;
      slot = λ j g q.
          slot_turn (eqb (get_or l i 0 / share) j) a k j (count share j (drop i l)) (count share j (drop (i + 1) l)) (count share j l)
          (ap (λ (x : ℕ). eqb x j) e) (omega (arith, t.size)) (t.slot j g q) (count_turn share j l i h);
    }

pub tally_pass : (share : ℕ) (least : ℕ) (l : List ℕ) (i : ℕ) (a : List ℕ) (k : ℕ) → i < length l → k ≡ get_or l i 0 / share → k < least → Tallying share least l i a → Tallying share least l (i + 1) a
tally_pass share least l i a k h e p t =
    record {
      size = t.size;
      slot = λ j g q.
          let z : eqb (get_or l i 0 / share) j ≡ false = ap (λ (x : ℕ). eqb x j) (sym e) ∙ ne_eqb k j (λ s. omega arith) in
          let d : count share j (drop i l) ≡ 0 + count share j (drop (i + 1) l) = count_turn share j l i h ∙ ap (λ (b : Bool). cond b 1 0 + count share j (drop (i + 1) l)) z in
          omega (arith, t.slot j g q);
    }

pub tally_room : (share : ℕ) (least : ℕ) (l : List ℕ) (i : ℕ) (a : List ℕ) (k : ℕ) → least ≤ k → k < 256 → Tallying share least l i a → get_or a k 0 ≤ length l
tally_room share least l i a k g p t = omega (arith, t.slot k g p, count_le share k l)

pub tally_done : (share : ℕ) (least : ℕ) (l : List ℕ) (i : ℕ) (a : List ℕ) → length l ≤ i → Tallying share least l i a → Tallied share least l a
unfolding count keep
tally_done share least l i a h t =
    let e : drop i l ≡ [] = drop_of_length-le l h in
    record { slot = λ k g p. let s : get_or a k 0 + count share k [] ≡ count share k l = rw e at (t.slot k g p) in omega arith }

-- a part whose bytes are all below an end, by another test
pub below_part : (test : ℕ → Bool) (l : List ℕ) (a e k end : ℕ) (r : Bool) → ((b : ℕ) → ltb b end ≡ test b) → e - a ≡ k → r ≡ every (λ (b : ℕ). ltb b end) (part a (e - a) l) → r ≡ every test (part a k l)
below_part test l a e k end r same p h = h ∙ every_same (λ (b : ℕ). ltb b end) test same (part a (e - a) l) ∙ ap (λ (x : ℕ). every test (part a x l)) p

pub at_most_one : (b : ℕ) → ltb b 2 ≡ leb b 1
at_most_one b = grind (arith, nat_tests)

pub half_within : (frames b : ℕ) → ltb b (2 * frames + 2) ≡ leb (b / 2) frames
half_within frames b = grind (arith, nat_tests)

pub zeros_part : (l : List ℕ) (a e k : ℕ) (r : Bool) → e - a ≡ k → r ≡ every (λ (b : ℕ). ltb b 1) (part a (e - a) l) → r ≡ zeros (part a k l)
unfolding zeros
zeros_part l a e k r p h = below_part (λ (b : ℕ). eqb b 0) l a e k 1 r ltb_eqb p h

-- slots by frame
slot_serving : (es a : List ℕ) (f : ℕ) → f < 64 → Tallied 2 1 es a → get_or a (f + 1) 0 ≡ serving f es
unfolding serving count
slot_serving es a f h t = t.slot (f + 1) (omega arith) (omega arith)

slot_times : (o a : List ℕ) (f : ℕ) → f < 64 → Tallied 1 0 o a → get_or a f 0 ≡ times f o
unfolding times count
slot_times o a f h t = t.slot f (omega arith) (omega arith) ∙ (λ i. length (keep (λ (b : ℕ). eqb (whole b i) f) o))
  where
    whole : (b : ℕ) → b / 1 ≡ b
    whole b = omega arith

once_same : (es a : List ℕ) (frames : ℕ) → frames ≤ 64 → Tallied 2 1 es a → up_to (λ (f : ℕ). leb (get_or a (f + 1) 0) 1) frames 0 ≡ up_to (λ (f : ℕ). leb (serving f es) 1) frames 0
once_same es a frames h t =
    up_to_alike (λ (f : ℕ). leb (get_or a (f + 1) 0) 1) (λ (f : ℕ). leb (serving f es) 1) frames 0
    (λ f _ p. ap (λ (x : ℕ). leb x 1) (slot_serving es a f (omega arith) t))

named_same : (es o a n : List ℕ) (frames : ℕ) → frames ≤ 64 → Tallied 2 1 es a → Tallied 1 0 o n → up_to (λ (f : ℕ). eqb (get_or n f 0) (get_or a (f + 1) 0)) frames 0 ≡ up_to (λ (f : ℕ). eqb (times f o) (serving f es)) frames 0
named_same es o a n frames h t u =
    up_to_alike (λ (f : ℕ). eqb (get_or n f 0) (get_or a (f + 1) 0)) (λ (f : ℕ). eqb (times f o) (serving f es)) frames 0
    (λ f _ p. both f (slot_times o n f (omega arith) u) (slot_serving es a f (omega arith) t))
  where
    both : (f : ℕ) → get_or n f 0 ≡ times f o → get_or a (f + 1) 0 ≡ serving f es → eqb (get_or n f 0) (get_or a (f + 1) 0) ≡ eqb (times f o) (serving f es)
    both f x y = ap (λ (z : ℕ). eqb z (get_or a (f + 1) 0)) x ∙ ap (λ (z : ℕ). eqb (times f o) z) y

pub agree_same : (es o a n : List ℕ) (frames : ℕ) (x y : Bool) → frames ≤ 64 → Tallied 2 1 es a → Tallied 1 0 o n → x ≡ up_to (λ (f : ℕ). leb (get_or a (f + 1) 0) 1) frames 0 → y ≡ up_to (λ (f : ℕ). eqb (get_or n f 0) (get_or a (f + 1) 0)) frames 0 → (x && y) ≡ (up_to (λ (f : ℕ). leb (serving f es) 1) frames 0 && up_to (λ (f : ℕ). eqb (times f o) (serving f es)) frames 0)
agree_same es o a n frames x y h t u p q =
    ap (λ (z : Bool). z && y) (p ∙ once_same es a frames h t) ∙ ap (λ (z : Bool). up_to (λ (f : ℕ). leb (serving f es) 1) frames 0 && z) (q ∙ named_same es o a n frames h t u)

pub agree_part : (l : List ℕ) (a e pages frames u : ℕ) (r : Bool) → length l - a ≡ pages → e - 35 ≡ u → r ≡ (up_to (λ (f : ℕ). leb (serving f (part a (length l - a) l)) 1) frames 0 && up_to (λ (f : ℕ). eqb (times f (part 35 (e - 35) l)) (serving f (part a (length l - a) l))) frames 0) → r ≡ (up_to (λ (f : ℕ). leb (serving f (part a pages l)) 1) frames 0 && up_to (λ (f : ℕ). eqb (times f (part 35 u l)) (serving f (part a pages l))) frames 0)
agree_part l a e pages frames u r p q h = rw (p, q) at h
