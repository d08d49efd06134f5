-- Laws of a journal that is written: lengths, pages that are lent, and what a call that is not refused tells.
use Rattle.std.proofs.Common.{◌≡◌, ℕ, zero, suc, ◌+◌, ◌-◌, ◌*◌, ◌/◌, ◌<◌, ◌≤◌, Bool, true, false, ◌&&◌, ◌||◌, ltb, leb, List, [], ◌∷◌, ◌++◌, Ok, length, get_or, replicate, refl, ap, ◌∙◌, add-mul, one-mul, le-div_iff_mul-le, arith, length-append, ltb-false, leb-true}
use lib.ListN.{length-replicate}
use borrow.Author.Tests.{not-false}
use Rattle.word.proofs.Tests.{and_both}
use Rattle.word.specs.Word.{bytes_of}
use Rattle.word.proofs.Bigs.{length_bytes}
use Rattle.record.specs.Part.{part}
use Rattle.record.proofs.Parts.{length_part}
use Rattle.journal.specs.Layout.{is_size, is_sector, whole_pages, first_bytes, header_bytes, Saved, record_bytes, checksum}
use Rattle.journal.specs.Writing.{any_past, journal_length}
use Rattle.journal.specs.Calls.{judge_write}
use Rattle.journal.proofs.Tells.{went_by, size_range, sector_range, pages_range}

-- neither of two tests
pub neither : (a b : Bool) → (a || b) ≡ false → (a ≡ false) × (b ≡ false)
neither false b h = (refl, h)
neither true b h = let z : ◌≡◌ {A = ℕ} 0 1 = cc in absurd (omega arith)

pub length_header : (count nonce pages sector size : ℕ) → 28 ≤ sector → length (header_bytes count nonce pages sector size) ≡ sector
unfolding header_bytes first_bytes bytes_of
length_header count nonce pages sector size h = let e : length {A = ℕ} (replicate (sector - 28) 0) ≡ sector - 28 = length-replicate (sector - 28) 0 in omega arith

-- a page that is lent is one of 1,024
pub page_small : (p size lent : ℕ) → 0 < size → lent / size ≤ 1024 → (p + 1) * size ≤ lent → p < 1024
page_small p size lent s h k = omega (arith, (le-div_iff_mul-le {k = size} {x = p + 1} {y = lent} s).1 k)

-- a page from its start to its end
pub page_span : (p size : ℕ) → (p + 1) * size ≡ p * size + size
page_span p size = add-mul p 1 size ∙ ap (λ (x : ℕ). p * size + x) (one-mul size)

-- each page listed is lent
pub listed : (lent size : ℕ) (list : List ℕ) → any_past lent size list ≡ false → (i : ℕ) → i < length list → (get_or list i 0 + 1) * size ≤ lent
unfolding any_past
listed lent size [] h i k = absurd (omega arith)
listed lent size (p ∷ ps) h zero k = ltb-false lent ((p + 1) * size) (neither (ltb lent ((p + 1) * size)) (any_past lent size ps) h).0
listed lent size (p ∷ ps) h (suc i) k = listed lent size ps (neither (ltb lent ((p + 1) * size)) (any_past lent size ps) h).1 i (omega arith)

-- a record has its length
pub length_record : (nonce size : ℕ) (r : Saved) → length r.image ≡ size → length (record_bytes nonce size r) ≡ size + 8
unfolding record_bytes
length_record nonce size r n =
    let sum : ℕ = checksum nonce size r.image in
    let a : length (bytes_of r.number ++ (r.image ++ bytes_of sum)) ≡ length (bytes_of r.number) + length (r.image ++ bytes_of sum) = length-append (bytes_of r.number) (r.image ++ bytes_of sum) in
    let b : length (r.image ++ bytes_of sum) ≡ length r.image + length (bytes_of sum) = length-append r.image (bytes_of sum) in
    let c₁ : length (bytes_of r.number) ≡ 4 = length_bytes r.number in
    let c₂ : length (bytes_of sum) ≡ 4 = length_bytes sum in
    omega arith

pub length_page : (size p : ℕ) (pages : List ℕ) → (p + 1) * size ≤ length pages → length (part (p * size) size pages) ≡ size
length_page size p pages h = let s : (p + 1) * size ≡ p * size + size = page_span p size in length_part (p * size) size pages (omega arith)

-- what writing asks for, once the call is not refused
pub record Fit (list : List ℕ) (lent room size sector : ℕ) : Type 0 where
  pub sized : is_size size ≡ true
  pub sectored : is_sector sector ≡ true
  pub whole : whole_pages size lent ≡ true
  pub lent_all : any_past lent size list ≡ false
  pub least : 512 ≤ size
  pub most : size ≤ 4096
  pub low : 32 ≤ sector
  pub high : sector ≤ 65536
  pub few : length list ≤ 4294967294
  pub pages : lent / size ≤ 1024
  pub space : journal_length sector size (length list) ≤ room

pub fit : (list : List ℕ) (lent room size sector : ℕ) → judge_write list lent room size sector ≡ Ok tt → Fit list lent room size sector
unfolding judge_write
fit list lent room size sector z =
    let a = went_by _ _ _ _ z in
    let b = went_by _ _ _ _ a.1 in
    let c = went_by _ _ _ _ b.1 in
    let d = went_by _ _ _ _ c.1 in
    let e = and_both (is_size size && is_sector sector) (leb (length list) 4294967294) (not-false (is_size size && is_sector sector && leb (length list) 4294967294) b.0) in
    let f = and_both (is_size size) (is_sector sector) e.0 in
    let s = size_range size f.0 in
    let r = sector_range sector f.1 in
    record {
      sized = f.0;
      sectored = f.1;
      whole = not-false (whole_pages size lent) c.0;
      lent_all = a.0;
      least = s.0;
      most = s.1;
      low = r.0;
      high = r.1;
      few = leb-true (length list) 4294967294 e.1;
      pages = (pages_range size lent (not-false (whole_pages size lent) c.0)).2;
      space = ltb-false room (journal_length sector size (length list)) d.0;
    }
