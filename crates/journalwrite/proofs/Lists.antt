-- Laws of a list of pages: all of them lent, a record more, the whole journal; and of the call judged and told.
use Prim.Native.Nat.{ℕ, zero, suc, ◌+◌, ◌*◌, ◌-◌, ◌/◌, ◌%◌, ◌^◌, ◌≤◌, ◌<◌}
use native.Mathlib.Omega.{arith}
use native.Mathlib.Nat.{mul-le-mul, mul-le-mul_right}
use mathlib.Core.Path.{◌≡◌, refl, sym, ap, ◌∙◌}
use mathlib.Core.Bool.{Bool, true, false, not, ◌&&◌}
use mathlib.Core.List.{List, [], ◌∷◌, ◌++◌, append-nil, append_assoc, map}
use lib.ListN.{length, take, drop, get_or, length-append, take-append-drop}
use lib.Seq.{take_at, drop_at, take-length, length-take-le, drop-drop}
use lib.Dec.{leb}
use borrow.Author.Tests.{lt-ltb, le-ltb, leb-true, eq-eqb, ne_eqb}
use Rattle.word.proofs.Tests.{and_both}
use Rattle.record.specs.Part.{with_part}
use Rattle.record.proofs.Parts.{length_with}
use Rattle.journal.specs.Layout.{is_size, is_sector, whole_pages, header_bytes, record_bytes, records_bytes}
use Rattle.journal.specs.Writing.{any_past, saved_page, journal_length, journal_bytes}
use Rattle.std.specs.Prelude.{Ok, Err, None}
use Rattle.journal.specs.declared.Refusal.{Refusal}
use Rattle.journal.specs.declared.Reply.{Reply}
use Rattle.journal.specs.declared.Refusal.TheVariants.{ShortTarget, EmptyList, BadPage, BadParameter, BadLength}
use Rattle.journal.specs.Calls.{judge_write, write_call, Told, reply_refused, reply_played}
use Rattle.journal.proofs.Tells.{refused_by, passed_by, size_range, sector_range}
use Rattle.journal.proofs.Writes.{fit, length_header, length_record, length_page}
use Rattle.journalwrite.proofs.Fills.{behind}

-- `page_end`: the product fits
pub end_fits : (p size : ℕ) → p < 2 ^ 32 → size < 2 ^ 32 → (p + 1) * size < 2 ^ 64
end_fits p size h k = omega (arith, mul-le-mul {n₁ = p + 1} {m₁ = size} {n₂ = 4294967296} {m₂ = 4294967295} (omega arith) (omega arith))

module _ (nonce size : ℕ) (pages : List ℕ) where
  -- one page more
  snoc : (list : List ℕ) (i : ℕ) → i < length list
      → records_bytes nonce size (map (saved_page size pages) (take (suc i) list))
      ≡ records_bytes nonce size (map (saved_page size pages) (take i list)) ++ record_bytes nonce size (saved_page size pages (get_or list i 0))
  unfolding records_bytes
  snoc [] i h = absurd (omega arith)
  snoc (p ∷ ps) zero h = append-nil (record_bytes nonce size (saved_page size pages p))
  snoc (p ∷ ps) (suc i) h =
      ap (λ (x : List ℕ). record_bytes nonce size (saved_page size pages p) ++ x) (snoc ps i (omega arith))
      ∙ sym (append_assoc (record_bytes nonce size (saved_page size pages p)) (records_bytes nonce size (map (saved_page size pages) (take i ps))) (record_bytes nonce size (saved_page size pages (get_or ps i 0))))

  -- i records are written behind the first bytes of the target
  pub record Wrote (start : ℕ) (list t : List ℕ) (i : ℕ) (now : List ℕ) : Type 0 where
    pub below : i ≤ length list
    pub front : length (take start t ++ records_bytes nonce size (map (saved_page size pages) (take i list))) ≡ journal_length start size i
    pub bytes : now ≡ (take start t ++ records_bytes nonce size (map (saved_page size pages) (take i list))) ++ drop (journal_length start size i) t
    pub long : length now ≡ length t

  module _ (start : ℕ) (list t : List ℕ) (fits : journal_length start size (length list) ≤ length t) where
    pub wrote_none : Wrote start list t 0 t
    unfolding records_bytes
    wrote_none =
        let z : start + 0 * (size + 8) ≡ start = omega arith in
        let h : start ≤ length t = omega arith in
        record {
          below = omega arith;
          front = rw (append-nil (take start t), z) (length-take-le start t h);
          bytes = rw (append-nil (take start t), z) (sym (take-append-drop start t));
          long = refl;
        }

    module _ (i : ℕ) (now : List ℕ) (w : Wrote start list t i now) where
      pub wrote_all : length list ≤ i → now ≡ (take start t ++ records_bytes nonce size (map (saved_page size pages) list)) ++ drop (journal_length start size (length list)) t
      wrote_all h =
          let b = w.below in
          let e : i ≡ length list = omega arith in
          w.bytes ∙ rw (e, take-length list) refl

      module _ (h : i < length list) where
        after : journal_length start size (i + 1) ≡ journal_length start size i + (size + 8)
        after = omega arith

        pub wrote_room : journal_length start size i + (size + 8) ≤ length now
        wrote_room =
            let m : (i + 1) * (size + 8) ≤ length list * (size + 8) = mul-le-mul_right (size + 8) (omega arith) in
            let l = w.long in
            omega arith

        pub wrote_turn : (now' : List ℕ) → (get_or list i 0 + 1) * size ≤ length pages
            → now' ≡ with_part (journal_length start size i) (size + 8) now (record_bytes nonce size (saved_page size pages (get_or list i 0))) → Wrote start list t (i + 1) now'
        wrote_turn now' k e =
            let at : ℕ = journal_length start size i in
            let r : List ℕ = record_bytes nonce size (saved_page size pages (get_or list i 0)) in
            let x : List ℕ = take start t ++ records_bytes nonce size (map (saved_page size pages) (take i list)) in
            let s : i + 1 ≡ suc i = omega arith in
            let n : length r ≡ size + 8 = length_record nonce size (saved_page size pages (get_or list i 0)) (length_page size (get_or list i 0) pages k) in
            let more : take start t ++ records_bytes nonce size (map (saved_page size pages) (take (i + 1) list)) ≡ x ++ r =
            rw (s, snoc list i h) (sym (append_assoc (take start t) (records_bytes nonce size (map (saved_page size pages) (take i list))) r))
            in
            let f = w.front in
            let la : length (x ++ r) ≡ length x + length r = length-append x r in
            record {
              below = omega arith;
              front = ap length more ∙ la ∙ omega arith;
              bytes = behind x t now now' r at (size + 8) f w.bytes e ∙ rw (more, after) refl;
              long = ap length e ∙ length_with at (size + 8) now r wrote_room n ∙ w.long;
            }

-- `put_page`: the page is lent as a part
pub page_put : (at p size nonce : ℕ) (pages t t₁ : List ℕ) → (p + 1) * size ≤ length pages
    → t₁ ≡ with_part at (length (take (p * size + size - p * size) (drop (p * size) pages)) + 8) t
    (record_bytes nonce (length (take (p * size + size - p * size) (drop (p * size) pages))) (record { number = p + 1; image = take (p * size + size - p * size) (drop (p * size) pages) }))
    → t₁ ≡ with_part at (size + 8) t (record_bytes nonce size (saved_page size pages p))
page_put at p size nonce pages t t₁ h e =
    let d : p * size + size - p * size ≡ size = omega arith in
    e ∙ rw d (rw (length_page size p pages h) refl)

-- the whole journal: the header, then the records
pub all_written : (pages list t t₁ t₂ : List ℕ) (size nonce sector : ℕ) → 28 ≤ sector
    → t₁ ≡ header_bytes (length list) nonce (length pages / size) sector size ++ drop sector t
    → t₂ ≡ (take sector t₁ ++ records_bytes nonce size (map (saved_page size pages) list)) ++ drop (journal_length sector size (length list)) t₁
    → t₂ ≡ journal_bytes pages list size nonce sector ++ drop (journal_length sector size (length list)) t
unfolding journal_bytes
all_written pages list t t₁ t₂ size nonce sector h e f =
    let x : List ℕ = header_bytes (length list) nonce (length pages / size) sector size in
    let n : length x ≡ sector = length_header (length list) nonce (length pages / size) sector size h in
    let front : take sector t₁ ≡ x = ap (λ (l : List ℕ). take sector l) e ∙ take_at x (drop sector t) sector n in
    let back : drop sector t₁ ≡ drop sector t = ap (λ (l : List ℕ). drop sector l) e ∙ drop_at x (drop sector t) sector n in
    let rest : drop (journal_length sector size (length list)) t₁ ≡ drop (journal_length sector size (length list)) t =
    sym (drop-drop (length list * (size + 8)) sector t₁) ∙ ap (λ (l : List ℕ). drop (length list * (size + 8)) l) back ∙ drop-drop (length list * (size + 8)) sector t
    in
    f ∙ rw (front, rest) refl

-- `judge`: each refusal, and none
module _ (list : List ℕ) (lent room size sector : ℕ) where
  abbrev Sized : Bool
  Sized = is_size size && is_sector sector && leb (length list) 4294967294

  pub judged_20 : any_past lent size list ≡ true → Err BadPage ≡ judge_write list lent room size sector
  unfolding judge_write
  judged_20 a = refused_by _ _ _ a

  module _ (a : any_past lent size list ≡ false) where
    pub judged_26 : Sized ≡ false → Err BadParameter ≡ judge_write list lent room size sector
    unfolding judge_write
    judged_26 b = passed_by _ _ _ _ a (refused_by _ _ _ (ap not b))

    module _ (b : Sized ≡ true) where
      pub judged_27 : whole_pages size lent ≡ false → Err BadLength ≡ judge_write list lent room size sector
      unfolding judge_write
      judged_27 c = passed_by _ _ _ _ a (passed_by _ _ _ _ (ap not b) (refused_by _ _ _ (ap not c)))

      module _ (c : whole_pages size lent ≡ true) where
        pub judged_14 : room < journal_length sector size (length list) → Err ShortTarget ≡ judge_write list lent room size sector
        unfolding judge_write
        judged_14 d = passed_by _ _ _ _ a (passed_by _ _ _ _ (ap not b) (passed_by _ _ _ _ (ap not c) (refused_by _ _ _ (lt-ltb room (journal_length sector size (length list)) d))))

        module _ (d : journal_length sector size (length list) ≤ room) where
          pub judged_15 : length list ≡ 0 → Err EmptyList ≡ judge_write list lent room size sector
          unfolding judge_write
          judged_15 e = passed_by _ _ _ _ a (passed_by _ _ _ _ (ap not b) (passed_by _ _ _ _ (ap not c) (passed_by _ _ _ _ (le-ltb room (journal_length sector size (length list)) d) (refused_by _ _ _ (eq-eqb (length list) 0 e)))))

          pub judged_go : (length list ≡ 0 → ⊥) → Ok tt ≡ judge_write list lent room size sector
          unfolding judge_write
          judged_go e = passed_by _ _ _ _ a (passed_by _ _ _ _ (ap not b) (passed_by _ _ _ _ (ap not c) (passed_by _ _ _ _ (le-ltb room (journal_length sector size (length list)) d) (passed_by _ _ _ _ (ne_eqb (length list) 0 e) refl))))

-- what the test for 26 tells, and that the journal's length fits
pub sizes : (size sector n : ℕ) → (is_size size && is_sector sector && leb n 4294967294) ≡ true → (0 < size) × (sector + n * (size + 8) < 2 ^ 63) × (n * (size + 8) < 2 ^ 63)
sizes size sector n h =
    let e = and_both (is_size size && is_sector sector) (leb n 4294967294) h in
    let f = and_both (is_size size) (is_sector sector) e.0 in
    let s = size_range size f.0 in
    let r = sector_range sector f.1 in
    let k : n ≤ 4294967294 = leb-true n 4294967294 e.1 in
    let z : size + 8 ≤ 4104 = omega (arith, s.1) in
    let m : n * (size + 8) ≤ 4294967294 * 4104 = mul-le-mul {n₁ = n} {m₁ = size + 8} {n₂ = 4294967294} {m₂ = 4104} k z in
    (omega (arith, s.0), omega (arith, r.1), omega arith)

-- the door: refused, and done
module _ (pages list target : List ℕ) (size nonce sector : ℕ) where
  pub write_no : (e : Refusal) → Err e ≡ judge_write list (length pages) (length target) size sector → Told (write_call pages list target size nonce sector) (reply_refused e) target
  unfolding write_call
  write_no e s = rw (← s) (record { reply = refl; bytes = refl })

  pub write_done : (r : Reply) (target' : List ℕ) → judge_write list (length pages) (length target) size sector ≡ Ok tt
      → r ≡ reply_played (record { count = length list; ended = None })
      → target' ≡ journal_bytes pages list size nonce sector ++ drop (journal_length sector size (length list)) target
      → Told (write_call pages list target size nonce sector) r target'
  unfolding write_call
  write_done r target' s told e =
      let few = (fit list (length pages) (length target) size sector s).few in
      let n : length list % 2 ^ 32 ≡ length list = omega arith in
      rw s (record { reply = told ∙ (λ i. record { code = 0; ended = 0; records = n i }); bytes = e })
