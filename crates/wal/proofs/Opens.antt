-- What the tests of a header and of a frame come to.
use Rattle.std.proofs.Common.{◌≡◌, ℕ, ◌*◌, ◌/◌, ◌≤◌, true, false, ◌&&◌, ◌||◌, eqb, List, length, sym, ap, ◌∙◌, arith, Ok}
use Rattle.std.proofs.lemmas.Bool.Decides.{nat_tests}
use Rattle.word.proofs.Tests.{and_both}
use Rattle.wal.specs.declared.Header.{Header}
use Rattle.word.specs.Word.{big as field}
use Rattle.wal.specs.Layout.{magic_of, version, is_page_size, is_header, head_in, opened}

-- a page size is from 512 to 65,536, and whole pairs of words
pub size_range : (n : ℕ) → is_page_size n ≡ true → (512 ≤ n) × (n ≤ 65536) × (8 * (n / 8) ≡ n)
unfolding is_page_size
size_range n h = grind (arith, nat_tests)

-- what a good header is
pub good_parts : (l : List ℕ) (h : Header) → opened l ≡ Ok h → (32 ≤ length l) × (is_header l ≡ true) × (head_in l ≡ h)
unfolding opened
good_parts l h e = grind (arith, nat_tests)

pub good_size : (l : List ℕ) (h : Header) → opened l ≡ Ok h → (512 ≤ h.size) × (h.size ≤ 65536) × (8 * (h.size / 8) ≡ h.size)
unfolding is_header head_in
good_size l h e =
    let p = good_parts l h e in
    let s : field l 8 ≡ h.size = ap (λ (x : Header). x.size) p.2 in
    let y : is_page_size (field l 8) ≡ true = (and_both ((eqb (field l 0) (magic_of false) || eqb (field l 0) (magic_of true)) && eqb (field l 4) version) (is_page_size (field l 8)) p.1).1 in
    size_range h.size (sym (ap is_page_size s) ∙ y)
