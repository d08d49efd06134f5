-- Laws of the turns of the checking loops, and what each check of the durable part found.
use Rattle.std.proofs.Common.{◌≡◌, ℕ, zero, suc, ◌+◌, ◌-◌, ◌*◌, ◌%◌, ◌^◌, ◌<◌, ◌≤◌, Bool, true, false, cond, ◌&&◌, ◌||◌, eqb, ltb, leb, List, [], ◌∷◌, length, get_or, take, drop, sym, refl, ap, ◌∙◌, mul-le-mul, add-one, arith, length-drop, drop_of_length-le, take_all, drop-cons, le-ltb, lt-ltb, eq-eqb, ne_eqb, le-leb}
use Rattle.std.specs.List.{list_all}
use Rattle.std.specs.Ordering.{nat_cmp, ord_max}
use Rattle.std.proofs.lemmas.Bool.Decides.{nat_tests}
use mathlib.Core.Bool.{and-true, and_assoc}
use lib.Dec.{leb-suc-suc}
use borrow.Author.Tests.{lt-leb}
use Rattle.word.proofs.Tests.{and_both}
use Rattle.record.specs.Rows.{rows}
use Rattle.record.proofs.Laws.{at_length}
use Rattle.record.specs.Record.{page_of, offset_of, length_of, kind_of, value_of, is_length, well_formed}
use Rattle.word.specs.Word.{num}
use Rattle.rules.specs.declared.Params.{Params}
use Rattle.rules.specs.Lent.{Lent, dirty_at}
use Rattle.rules.specs.Sound.{every, up_to, zeros, in_range, exact_lengths, s1_parameters, s2_lengths, s3_logged, s16_logged, s18_first, s15_stamps, s17_s19_dirty, s7_log_records, s14_log_zero, sound_durable}
use Rattle.rules.proofs.Walks.{up_to_alike, up_to_both}
use Rattle.durable.specs.Limits.{places_of, most_values}
use Rattle.durable.specs.Marks.{is_record, number_within, sound_dirty, dirty_from, dirty_within, sound_dirties, sound_marks}
use Rattle.layout.specs.Read.{ParamsRead}

-- a loop that keeps the greatest of bytes that are to be zero: a turn and the end
greatest_zero : (a b : ℕ) → eqb (ord_max nat_cmp a b) 0 ≡ (eqb a 0 && eqb b 0)
greatest_zero a b = grind (arith, nat_tests)

pub zeros_turn : (l : List ℕ) (i a : ℕ) (x : Bool) → i < length l → (eqb a 0 && zeros (drop i l)) ≡ x → (eqb (ord_max nat_cmp a (get_or l i 0)) 0 && zeros (drop (i + 1) l)) ≡ x
unfolding zeros every
zeros_turn l i a x p inv = rw (add-one, greatest_zero a (get_or l i 0)) (and_assoc (eqb a 0) (eqb (get_or l i 0) 0) (zeros (drop (suc i) l)) ∙ (rw (drop-cons l i 0 p) at inv))

pub zeros_done : (l : List ℕ) (i a : ℕ) (x : Bool) → length l ≤ i → (eqb a 0 && zeros (drop i l)) ≡ x → eqb a 0 ≡ x
unfolding zeros every
zeros_done l i a x p inv = sym (and-true (eqb a 0)) ∙ (rw (drop_of_length-le l {i = i} p) at inv)

-- what is lent of a list from a place on
pub rest_lent : {A : Type 0} (l : List A) (a : ℕ) → take (length l - a) (drop a l) ≡ drop a l
rest_lent l a = take_all (length l - a) (drop a l) (rw (length-drop a l) (omega arith))

-- the tables by length: at a length the places of a change and the greatest value, at another number up to 8 no place
places_at : (size w : ℕ) → w ≤ 8 → get_or (places_of size) w 0 ≡ cond (is_length w) (size + 1 - w) 0
unfolding places_of is_length
places_at size zero h = refl
places_at size (suc zero) h = omega arith
places_at size (suc (suc zero)) h = omega arith
places_at size (suc (suc (suc zero))) h = refl
places_at size (suc (suc (suc (suc zero)))) h = omega arith
places_at size (suc (suc (suc (suc (suc zero))))) h = refl
places_at size (suc (suc (suc (suc (suc (suc zero)))))) h = refl
places_at size (suc (suc (suc (suc (suc (suc (suc zero))))))) h = refl
places_at size (suc (suc (suc (suc (suc (suc (suc (suc zero)))))))) h = omega arith
places_at size (suc (suc (suc (suc (suc (suc (suc (suc (suc w))))))))) h = absurd (omega arith)

most_at : (w : ℕ) → is_length w ≡ true → suc (get_or most_values w 0) ≡ 256 ^ w
unfolding most_values
most_at w h = at_length (λ (x : ℕ). suc (get_or most_values x 0) ≡ 256 ^ x) w h refl refl refl refl

-- an offset is one of the places where the length is one and the change fits the page
place_test : (size offset w : ℕ) → ltb offset (size + 1 - w) ≡ leb (offset + w) size
place_test size offset w = grind (arith, nat_tests)

guarded_place : (size offset w : ℕ) (l : Bool) → ltb offset (cond l (size + 1 - w) 0) ≡ (l && leb (offset + w) size)
guarded_place size offset w true = place_test size offset w
guarded_place size offset w false = le-ltb offset 0 (omega arith)

places_test : (size offset w : ℕ) → w ≤ 8 → ltb offset (get_or (places_of size) w 0) ≡ (is_length w && leb (offset + w) size)
places_test size offset w h = ap (ltb offset) (places_at size w h) ∙ guarded_place size offset w (is_length w)

most_test : (w v : ℕ) → is_length w ≡ true → leb v (get_or most_values w 0) ≡ ltb v (256 ^ w)
most_test w v h = sym (leb-suc-suc v (get_or most_values w 0)) ∙ ap (ltb v) (most_at w h)

long_length : (w : ℕ) → 8 < w → is_length w ≡ false
unfolding is_length
long_length w h = grind (arith, nat_tests)

-- `is_record`: each way out is the first test that fails
module _ (size pages page offset w kind v : ℕ) where
  pub record_page : pages ≤ page → false ≡ is_record size pages page offset w kind v
  unfolding is_record
  record_page h = rw (le-ltb page pages h)

  module _ (paged : page < pages) where
    pub record_long : 8 < w → false ≡ is_record size pages page offset w kind v
    unfolding is_record
    record_long h = rw (lt-ltb page pages paged, long_length w h)

    module _ {places : List ℕ} (made : places ≡ places_of size) (short : w ≤ 8) where
      entry_test : ltb offset (get_or places w 0) ≡ (is_length w && leb (offset + w) size)
      entry_test = rw made (places_test size offset w short)

      pub record_place : get_or places w 0 ≤ offset → false ≡ is_record size pages page offset w kind v
      unfolding is_record
      record_place h = rw (lt-ltb page pages paged, sym entry_test ∙ le-ltb offset (get_or places w 0) h)

      module _ (placed : offset < get_or places w 0) where
        fits : (is_length w && leb (offset + w) size) ≡ true
        fits = sym entry_test ∙ lt-ltb offset (get_or places w 0) placed

        pub record_kind : 1 < kind → false ≡ is_record size pages page offset w kind v
        unfolding is_record
        record_kind h = rw (lt-ltb page pages paged, fits, lt-leb kind 1 h)

        pub record_value : {most : List ℕ} → most ≡ most_values → kind ≤ 1 → leb v (get_or most w 0) ≡ is_record size pages page offset w kind v
        unfolding is_record
        record_value e h = rw (e, lt-ltb page pages paged, fits, le-leb kind 1 h) (most_test w v (and_both (is_length w) (leb (offset + w) size) fits).0)

-- `all` over a list
pub every_listed : {A : Type 0} (b : A → Bool) (l : List A) → list_all b l ≡ every b l
unfolding every
every_listed b [] = refl
every_listed b (x ∷ l) = ap (λ (y : Bool). b x && y) (every_listed b l)

-- `well_formed`: the fields are those of a row
pub record_fields : (size pages page offset w kind v : ℕ) (r : List ℕ) (x : Bool) → page ≡ page_of r → offset ≡ offset_of r → w ≡ length_of r → kind ≡ kind_of r → v ≡ value_of r → x ≡ is_record size pages page offset w kind v → x ≡ well_formed size pages r
unfolding well_formed is_record
record_fields size pages page offset w kind v r x a b c d e h = rw (← a, ← b, ← c, ← d, ← e) h

-- no number yet, and one more
pub up_to_first : (b : ℕ → Bool) → up_to b 0 0 ≡ true
unfolding up_to
up_to_first b = refl

up_to_more : (b : ℕ → Bool) (n i : ℕ) → up_to b (suc n) i ≡ (up_to b n i && b (i + n))
unfolding up_to
up_to_more b zero i = let e : i + 0 ≡ i = omega arith in rw e (and-true (b i))
up_to_more b (suc n) i =
    let e : i + suc n ≡ i + 1 + n = omega arith in
    rw e (ap (λ (x : Bool). b i && x) (up_to_more b n (i + 1)) ∙ sym (and_assoc (b i) (up_to b n (i + 1)) (b (i + 1 + n))))

pub up_to_next : (b : ℕ → Bool) (n : ℕ) → up_to b (n + 1) 0 ≡ (up_to b n 0 && b n)
up_to_next b n = let e : 0 + n ≡ n = omega arith in rw (add-one, up_to_more b n 0, e)

-- `none_before`: one less than none is the greatest number, and one less than another is at least the number before the first where that one is at least the first
pub below_test : (d below : ℕ) → below < 4294967296 → d < 4294967296 → leb below ((d + 4294967295) % 4294967296) ≡ (eqb d 0 || leb (below + 1) d)
below_test d below hb hd = grind (arith, nat_tests)

-- `dirty_numbers`: both loops together test each number
dirty_parts : (first closed d : ℕ) → sound_dirty first closed d ≡ (leb d closed && (eqb d 0 || leb first d))
dirty_parts first closed d = grind (arith, nat_tests)

pub dirty_found : (marks : List ℕ) (pages first closed : ℕ) (a b : Bool) → a ≡ up_to (number_within marks (12 + 4 * pages) closed) pages 0 → b ≡ up_to (dirty_from marks pages first) pages 0 → (a && b) ≡ sound_dirties marks pages first closed
dirty_found marks pages first closed a b e f =
    rw (e, f) (sym (
    up_to_alike (dirty_within marks pages first closed) (λ (p : ℕ). number_within marks (12 + 4 * pages) closed p && dirty_from marks pages first p) pages 0 (λ p _ _. dirty_parts first closed (num 4 marks (dirty_at pages p)))
    ∙ up_to_both (number_within marks (12 + 4 * pages) closed) (dirty_from marks pages first) pages 0
    ))

-- `sound_log`: what the calls found
pub log_found : (size pages n : ℕ) (log : List ℕ) (a b : Bool) → a ≡ every (well_formed size pages) (rows 14 n log 0) → b ≡ zeros (take (length log - n * 14) (drop (n * 14) log)) → (a && b) ≡ (every (well_formed size pages) (rows 14 n log 0) && zeros (drop (n * 14) log))
log_found size pages n log a b e f = rw (e, f, rest_lent log (n * 14))

-- an area of pages or frames stays small
pub area_small : (size n : ℕ) → size ≤ 4096 → n ≤ 1024 → size * n ≤ 4194304
area_small size n h k = mul-le-mul {n₁ = size} {m₁ = n} {n₂ = 4096} {m₂ = 1024} h k

-- `sound_durable`: what each check found
pub durable_fixed : (s : Lent) → (length s.durable.fixed ≡ 20 → ⊥) → sound_durable s ≡ false
unfolding sound_durable s1_parameters
durable_fixed s h = rw (ne_eqb (length s.durable.fixed) 20 h)

module _ (s : Lent) (g : Params) (fixed : length s.durable.fixed ≡ 20) (read : ParamsRead s.durable.fixed g) where
  first_clause : (b : Bool) → in_range g ≡ b → s1_parameters s ≡ b
  unfolding s1_parameters
  first_clause b h = rw (eq-eqb (length s.durable.fixed) 20 fixed, ← read.size, ← read.pages, ← read.frames, ← read.online, ← read.log) h

  second_clause : (b : Bool) → exact_lengths s g ≡ b → s2_lengths s ≡ b
  unfolding s2_lengths
  second_clause b h = rw (← read.size, ← read.pages, ← read.frames, ← read.online, ← read.log) h

  pub durable_range : in_range g ≡ false → sound_durable s ≡ false
  unfolding sound_durable
  durable_range h = rw (first_clause false h)

  module _ (within : in_range g ≡ true) where
    pub durable_lengths : exact_lengths s g ≡ false → sound_durable s ≡ false
    unfolding sound_durable
    durable_lengths h = rw (first_clause true within, second_clause false h)

    pub durable_marks : exact_lengths s g ≡ true → sound_durable s ≡ sound_marks s.durable.marks s.durable.log g.size g.pages g.log
    unfolding sound_durable sound_marks s3_logged s16_logged s18_first s15_stamps s17_s19_dirty s7_log_records s14_log_zero
    durable_marks h = rw (first_clause true within, second_clause true h, ← read.size, ← read.pages, ← read.log)
