-- Laws of a look at the records: a record's fault, a turn, and each way to the end.
use Prim.Native.Nat.{ℕ, zero, suc, ◌+◌, ◌*◌, ◌-◌, ◌≤◌, ◌<◌}
use native.Mathlib.Omega.{arith}
use native.Mathlib.Nat.{suc-mul}
use mathlib.Core.Path.{◌≡◌, refl, sym, ap, ◌∙◌}
use mathlib.Core.Bool.{Bool, true, false, ◌||◌}
use Rattle.std.specs.Prelude.{Option, None, Some, is_some, Ok, Err}
use Rattle.journal.specs.declared.Refusal.TheVariants.{WrongPage}
use Rattle.journal.specs.declared.Fault.{Fault}
use Rattle.journal.specs.declared.Fault.TheVariants.{CutShort, BadSum}
use Rattle.journal.specs.declared.Run.{Run}
use Rattle.journal.specs.Calls.{refuse_if}
use mathlib.Core.List.{List}
use lib.ListN.{length, take, drop, length-drop}
use lib.Seq.{drop-drop, length-take-le}
use lib.Dec.{ltb}
use borrow.Author.Tests.{lt-ltb, le-ltb, ltb-false, eq-eqb, ne_eqb}
use Rattle.record.specs.Part.{part}
use Rattle.word.specs.Word.{big}
use Rattle.word.proofs.Bigs.{big_drop}
use Rattle.journal.specs.Layout.{checksum, sum_of, records}
use Rattle.journal.specs.Playing.{fault_of, go_on, run, is_outside, outside}
use Rattle.journalplay.specs.Seen.{seen}

-- the image of the record at a place, as it is lent
pub lent_image : (at size : ℕ) (l : List ℕ) → take (at + 4 + size - (at + 4)) (drop (at + 4) l) ≡ part 4 size (drop at l)
lent_image at size l =
    let d : at + 4 + size - (at + 4) ≡ size = omega arith in
    ap (λ (n : ℕ). take n (drop (at + 4) l)) d ∙ ap (λ (x : List ℕ). take size x) (sym (drop-drop 4 at l))

pub image_length : (at size : ℕ) (l : List ℕ) → at + (size + 8) ≤ length l → length (part 4 size (drop at l)) ≡ size
image_length at size l h =
    let e : length (drop 4 (drop at l)) ≡ length l - at - 4 = length-drop 4 (drop at l) ∙ ap (λ (n : ℕ). n - 4) (length-drop at l) in
    length-take-le size (drop 4 (drop at l)) (omega arith)

-- `fault_at`: cut short; whole, with its checksum and the sum over its image
pub fault_short : (at nonce size : ℕ) (l : List ℕ) → length l - at < size + 8 → Some CutShort ≡ fault_of nonce size (drop at l)
unfolding fault_of
fault_short at nonce size l h =
    let e : length (drop at l) ≡ length l - at = length-drop at l in
    rw (lt-ltb (length (drop at l)) (size + 8) (omega arith))

module _ (at nonce size : ℕ) (l : List ℕ) (fits : at ≤ length l) (whole : size + 8 ≤ length l - at) (stored sum : ℕ) (es : stored ≡ big l (at + 4 + size))
    (ec : sum ≡ checksum nonce (length (take (at + 4 + size - (at + 4)) (drop (at + 4) l))) (take (at + 4 + size - (at + 4)) (drop (at + 4) l))) where
  right_place : stored ≡ sum_of size (drop at l)
  right_place =
      let e : at + (4 + size) ≡ at + 4 + size = omega arith in
      es ∙ sym (big_drop at (4 + size) l ∙ ap (λ (n : ℕ). big l n) e)

  right_sum : sum ≡ checksum nonce size (part 4 size (drop at l))
  right_sum =
      ec ∙ ap (λ (x : List ℕ). checksum nonce (length x) x) (lent_image at size l)
      ∙ ap (λ (n : ℕ). checksum nonce n (part 4 size (drop at l))) (image_length at size l (omega arith))

  is_whole : ltb (length (drop at l)) (size + 8) ≡ false
  is_whole = let e : length (drop at l) ≡ length l - at = length-drop at l in le-ltb (length (drop at l)) (size + 8) (omega arith)

  pub fault_none : stored ≡ sum → None ≡ fault_of nonce size (drop at l)
  unfolding fault_of
  fault_none e = rw (is_whole, eq-eqb (sum_of size (drop at l)) (checksum nonce size (part 4 size (drop at l))) (sym right_place ∙ e ∙ right_sum))

  pub fault_sum : (stored ≡ sum → ⊥) → Some BadSum ≡ fault_of nonce size (drop at l)
  unfolding fault_of
  fault_sum h = rw (is_whole, ne_eqb (sum_of size (drop at l)) (checksum nonce size (part 4 size (drop at l))) (λ e. h (right_place ∙ e ∙ sym right_sum)))

-- a record without a fault is whole
none_of : (f : Option Fault) → is_some f ≡ false → f ≡ None
none_of None h = refl
none_of (Some k) h = let z : ◌≡◌ {A = ℕ} 0 1 = cc in absurd (omega arith)

pub fault_fits : (nonce size : ℕ) (l : List ℕ) → fault_of nonce size l ≡ None → size + 8 ≤ length l
unfolding fault_of
fault_fits nonce size l h = go (ltb (length l) (size + 8)) refl
  where
    go : (b : Bool) → ltb (length l) (size + 8) ≡ b → size + 8 ≤ length l
    go true e = let z : Some CutShort ≡ None = (rw e at h) in let y : ◌≡◌ {A = ℕ} 0 1 = cc in absurd (omega arith)
    go false e = ltb-false (length l) (size + 8) e

-- one record more: it is the end, or goes on
pub run_stop : (m nonce size : ℕ) (f : Option Fault) (l : List ℕ) → f ≡ fault_of nonce size l → is_some f ≡ true → run (suc m) nonce size l ≡ record { count = 0; ended = f }
unfolding run
run_stop m nonce size f l e h = rw (← e) (go f h)
  where
    go : (f : Option Fault) → is_some f ≡ true → go_on f (run m nonce size (drop (size + 8) l)) ≡ record { count = 0; ended = f }
    go None h = let z : ◌≡◌ {A = ℕ} 0 1 = cc in absurd (omega arith)
    go (Some k) h = refl

pub run_go : (m nonce size : ℕ) (l : List ℕ) → fault_of nonce size l ≡ None
    → run (suc m) nonce size l ≡ record { count = suc (run m nonce size (drop (size + 8) l)).count; ended = (run m nonce size (drop (size + 8) l)).ended }
unfolding run
run_go m nonce size l e = rw e

-- what the records of a run need of the bytes
pub run_fits : (n nonce size : ℕ) (l : List ℕ) → (run n nonce size l).count * (size + 8) ≤ length l
unfolding run
run_fits zero nonce size l = omega arith
run_fits (suc n) nonce size l = go (fault_of nonce size l) refl (run_fits n nonce size (drop (size + 8) l))
  where
    go : (f : Option Fault) → fault_of nonce size l ≡ f → (run n nonce size (drop (size + 8) l)).count * (size + 8) ≤ length (drop (size + 8) l)
        → (go_on f (run n nonce size (drop (size + 8) l))).count * (size + 8) ≤ length l
    go None e ih =
        let d : length (drop (size + 8) l) ≡ length l - (size + 8) = length-drop (size + 8) l in
        let h : size + 8 ≤ length l = fault_fits nonce size l e in
        rw (suc-mul (run n nonce size (drop (size + 8) l)).count (size + 8)) (omega arith)
    go (Some k) e ih = omega arith

-- so many records more
abbrev behind : ℕ → Run → Run
behind i r = record { count = i + r.count; ended = r.ended }

-- i records are behind, all of them to be restored and none outside; the next is behind their bytes
pub record Ahead (n nonce size pages : ℕ) (body : List ℕ) (i : ℕ) : Type 0 where
  pub below : i ≤ n
  pub within : i * (size + 8) ≤ length body
  pub all : run n nonce size body ≡ behind i (run (n - i) nonce size (drop (i * (size + 8)) body))
  pub wrong : outside pages (records (run n nonce size body).count size body) ≡ outside pages (records (run (n - i) nonce size (drop (i * (size + 8)) body)).count size (drop (i * (size + 8)) body))

module _ (n nonce size pages : ℕ) (body : List ℕ) where
  pub ahead_none : Ahead n nonce size pages body 0
  ahead_none =
      let z : 0 * (size + 8) ≡ 0 = omega arith in
      let e : n - 0 ≡ n = omega arith in
      record {
        below = omega arith;
        within = omega arith;
        all = rw (z, e) (ap (λ (m : ℕ). record { count = m; ended = (run n nonce size body).ended }) (omega arith));
        wrong = rw (z, e);
      }

  module _ (i : ℕ) (a : Ahead n nonce size pages body i) where
    abbrev at : ℕ
    at = i * (size + 8)

    pub seen_end : n ≤ i → Ok (record { count = n; ended = None }) ≡ seen n nonce size pages body
    unfolding run records outside seen refuse_if
    seen_end h =
        let e : n - i ≡ 0 = omega arith in
        let b = a.below in
        let k : i + 0 ≡ n = omega arith in
        let o : outside pages (records (run n nonce size body).count size body) ≡ false = a.wrong ∙ rw e in
        let r : run n nonce size body ≡ record { count = n; ended = None } = a.all ∙ rw (e, k) in
        rw (o, r)

    module _ (h : i < n) where
      one : n - i ≡ suc (n - (i + 1))
      one = omega arith

      pub seen_fault : (f : Option Fault) → f ≡ fault_of nonce size (drop at body) → is_some f ≡ true → Ok (record { count = i; ended = f }) ≡ seen n nonce size pages body
      unfolding records outside seen refuse_if
      seen_fault f e k =
          let stop : run (n - i) nonce size (drop at body) ≡ record { count = 0; ended = f } = rw one (run_stop (n - (i + 1)) nonce size f (drop at body) e k) in
          let o : outside pages (records (run n nonce size body).count size body) ≡ false = a.wrong ∙ rw stop in
          let k : i + 0 ≡ i = omega arith in
          let r : run n nonce size body ≡ record { count = i; ended = f } = a.all ∙ rw (stop, k) in
          rw (o, r)

      module _ (clean : is_some (fault_of nonce size (drop at body)) ≡ false) where
        next : List ℕ
        next = drop (at + (size + 8)) body

        more : run (n - i) nonce size (drop at body) ≡ record { count = suc (run (n - (i + 1)) nonce size next).count; ended = (run (n - (i + 1)) nonce size next).ended }
        unfolding next
        more = rw (one, ← drop-drop (size + 8) at body) (run_go (n - (i + 1)) nonce size (drop at body) (none_of _ clean))

        first : outside pages (records (run n nonce size body).count size body)
            ≡ (is_outside pages (big (drop at body) 0) || outside pages (records (run (n - (i + 1)) nonce size next).count size next))
        unfolding next records outside
        first = a.wrong ∙ rw more (rw (drop-drop (size + 8) at body) refl)

        pub seen_outside : is_outside pages (big (drop at body) 0) ≡ true → Err WrongPage ≡ seen n nonce size pages body
        unfolding seen refuse_if
        seen_outside o = let w : outside pages (records (run n nonce size body).count size body) ≡ true = first ∙ rw o in rw w

        pub ahead_turn : is_outside pages (big (drop at body) 0) ≡ false → Ahead n nonce size pages body (i + 1)
        unfolding next
        ahead_turn o =
            let d : length (drop at body) ≡ length body - at = length-drop at body in
            let w : size + 8 ≤ length (drop at body) = fault_fits nonce size (drop at body) (none_of _ clean) in
            let b = a.within in
            let m : (i + 1) * (size + 8) ≡ i * (size + 8) + (size + 8) = omega arith in
            record {
              below = omega arith;
              within = omega arith;
              all = a.all ∙ rw (more, m) (ap (λ (m : ℕ). record { count = m; ended = (run (n - (i + 1)) nonce size next).ended }) (omega arith));
              wrong = first ∙ rw (o, m) refl;
            }

-- a record without a fault has its number
pub fault_whole : (at nonce size : ℕ) (l : List ℕ) → at ≤ length l → is_some (fault_of nonce size (drop at l)) ≡ false → at + 4 ≤ length l
fault_whole at nonce size l h e =
    let d : length (drop at l) ≡ length l - at = length-drop at l in
    let w : size + 8 ≤ length (drop at l) = fault_fits nonce size (drop at l) (none_of _ e) in
    omega arith
