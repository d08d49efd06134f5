-- A journal that was written, read back: its header's fields, and its records.
use Prim.Native.Nat.{ℕ, suc, ◌+◌, ◌≤◌, ◌<◌}
use native.Mathlib.Omega.{arith}
use mathlib.Core.Path.{◌≡◌, refl, sym, ap, ◌∙◌}
use mathlib.Core.Bool.{true}
use mathlib.Core.List.{List, [], ◌∷◌, ◌++◌, append_assoc}
use lib.ListN.{length, take, drop, length-append}
use lib.Seq.{take_at, drop_at}
use borrow.Author.Tests.{eq-eqb, le-ltb, le-leb}
use Rattle.record.specs.Part.{part}
use Rattle.word.specs.Word.{big, bytes_of}
use Rattle.word.proofs.Bigs.{big_front, big_drop, length_bytes}
use Rattle.journal.specs.Layout.{first_bytes, count_of, nonce_of, sector_of, size_of, is_sector, same, is_header, checksum, Saved, saved_of, sum_of, records, record_bytes, records_bytes, header_bytes}
use Rattle.std.specs.Prelude.{None}
use Rattle.journal.specs.declared.Run.{Run}
use Rattle.journal.specs.Playing.{fault_of, run}
use Rattle.journal.proofs.Writes.{length_header, length_record}

-- the header's fields
module _ (count nonce pages sector size : ℕ) (l : List ℕ) where
  pub reads_count : count < 4294967296 → count_of (header_bytes count nonce pages sector size ++ l) ≡ count
  unfolding header_bytes first_bytes bytes_of big
  reads_count h = big_front count [] h

  pub reads_nonce : nonce < 4294967296 → nonce_of (header_bytes count nonce pages sector size ++ l) ≡ nonce
  unfolding header_bytes first_bytes bytes_of big
  reads_nonce h = big_front nonce [] h

  pub reads_sector : sector < 4294967296 → sector_of (header_bytes count nonce pages sector size ++ l) ≡ sector
  unfolding header_bytes first_bytes bytes_of big
  reads_sector h = big_front sector [] h

  pub reads_size : size < 4294967296 → size_of (header_bytes count nonce pages sector size ++ l) ≡ size
  unfolding header_bytes first_bytes bytes_of big
  reads_size h = big_front size [] h

  begins : same (take 8 (header_bytes count nonce pages sector size ++ l)) first_bytes ≡ true
  unfolding header_bytes first_bytes same
  begins = refl

  -- it is a header
  pub reads_header : 28 ≤ sector → is_sector sector ≡ true → sector < 4294967296 → size < 4294967296 → is_header size (header_bytes count nonce pages sector size ++ l) ≡ true
  unfolding is_header
  reads_header h s k m =
      let e : length (header_bytes count nonce pages sector size) ≡ sector = length_header count nonce pages sector size h in
      let a : length (header_bytes count nonce pages sector size ++ l) ≡ length (header_bytes count nonce pages sector size) + length l = length-append (header_bytes count nonce pages sector size) l in
      let n : 28 ≤ length (header_bytes count nonce pages sector size ++ l) = omega arith in
      rw (le-leb 28 (length (header_bytes count nonce pages sector size ++ l)) n, begins, reads_sector k, s, reads_size m, eq-eqb size size refl)

-- the record at the front
module _ (nonce size : ℕ) (r : Saved) (rest : List ℕ) (long : length r.image ≡ size) (small : r.number < 4294967296) where
  sum : ℕ
  sum = checksum nonce size r.image

  apart : record_bytes nonce size r ++ rest ≡ bytes_of r.number ++ (r.image ++ (bytes_of sum ++ rest))
  unfolding record_bytes sum
  apart =
      append_assoc (bytes_of r.number) (r.image ++ bytes_of sum) rest
      ∙ ap (λ (l : List ℕ). bytes_of r.number ++ l) (append_assoc r.image (bytes_of sum) rest)

  reads_number : big (record_bytes nonce size r ++ rest) 0 ≡ r.number
  reads_number = rw apart (big_front r.number (r.image ++ (bytes_of sum ++ rest)) small)

  reads_image : part 4 size (record_bytes nonce size r ++ rest) ≡ r.image
  reads_image = rw (apart, drop_at (bytes_of r.number) (r.image ++ (bytes_of sum ++ rest)) 4 (length_bytes r.number)) (take_at r.image (bytes_of sum ++ rest) size long)

  pub reads_saved : saved_of size (record_bytes nonce size r ++ rest) ≡ r
  reads_saved = λ i. record { number = reads_number i; image = reads_image i }

  sum_small : sum < 4294967296
  unfolding sum checksum
  sum_small = omega arith

  reads_sum : sum_of size (record_bytes nonce size r ++ rest) ≡ sum
  reads_sum =
      let w : length (bytes_of r.number ++ r.image) ≡ 4 + size = length-append (bytes_of r.number) r.image ∙ ap (λ (n : ℕ). length (bytes_of r.number) + n) long ∙ ap (λ (n : ℕ). n + size) (length_bytes r.number) in
      let z : 4 + size + 0 ≡ 4 + size = omega arith in
      let e : record_bytes nonce size r ++ rest ≡ (bytes_of r.number ++ r.image) ++ (bytes_of sum ++ rest) = apart ∙ sym (append_assoc (bytes_of r.number) r.image (bytes_of sum ++ rest)) in
      let d : drop (4 + size) (record_bytes nonce size r ++ rest) ≡ bytes_of sum ++ rest = ap (λ (l : List ℕ). drop (4 + size) l) e ∙ drop_at (bytes_of r.number ++ r.image) (bytes_of sum ++ rest) (4 + size) w in
      ap (λ (n : ℕ). big (record_bytes nonce size r ++ rest) n) (sym z)
      ∙ sym (big_drop (4 + size) 0 (record_bytes nonce size r ++ rest))
      ∙ ap (λ (l : List ℕ). big l 0) d
      ∙ big_front sum rest sum_small

  long_record : length (record_bytes nonce size r) ≡ size + 8
  long_record = length_record nonce size r long

  pub reads_next : drop (size + 8) (record_bytes nonce size r ++ rest) ≡ rest
  reads_next = drop_at (record_bytes nonce size r) rest (size + 8) long_record

  pub reads_fine : fault_of nonce size (record_bytes nonce size r ++ rest) ≡ None
  unfolding fault_of sum
  reads_fine =
      let a : length (record_bytes nonce size r ++ rest) ≡ length (record_bytes nonce size r) + length rest = length-append (record_bytes nonce size r) rest in
      let e : length (record_bytes nonce size r) ≡ size + 8 = long_record in
      let n : size + 8 ≤ length (record_bytes nonce size r ++ rest) = omega arith in
      rw (le-ltb (length (record_bytes nonce size r ++ rest)) (size + 8) n, reads_image, reads_sum, eq-eqb sum sum refl)

-- records whose images are pages and whose numbers fit four bytes
pub data Fine (size : ℕ) : List Saved → Type 0 where
  none : Fine size []
  more : {r : Saved} {rs : List Saved} → length r.image ≡ size → r.number < 4294967296 → Fine size rs → Fine size (r ∷ rs)

-- all of them
pub reads_run : (nonce size : ℕ) (rs : List Saved) (rest : List ℕ) → Fine size rs → run (length rs) nonce size (records_bytes nonce size rs ++ rest) ≡ record { count = length rs; ended = None }
unfolding run records_bytes
reads_run nonce size [] rest none = refl
reads_run nonce size (r ∷ rs) rest (more long small f) =
    rw (append_assoc (record_bytes nonce size r) (records_bytes nonce size rs) rest, reads_fine nonce size r (records_bytes nonce size rs ++ rest) long small, reads_next nonce size r (records_bytes nonce size rs ++ rest) long small)
    (ap (λ (x : Run). record { count = suc x.count; ended = x.ended }) (reads_run nonce size rs rest f))

pub reads_records : (nonce size : ℕ) (rs : List Saved) (rest : List ℕ) → Fine size rs → records (length rs) size (records_bytes nonce size rs ++ rest) ≡ rs
unfolding records records_bytes
reads_records nonce size [] rest none = refl
reads_records nonce size (r ∷ rs) rest (more long small f) =
    let l : List ℕ = records_bytes nonce size rs ++ rest in
    rw (append_assoc (record_bytes nonce size r) (records_bytes nonce size rs) rest, reads_next nonce size r l long small)
    (λ i. reads_saved nonce size r l long small i ∷ reads_records nonce size rs rest f i)
