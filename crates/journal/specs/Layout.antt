-- SQLite's rollback journal by its bytes (docs/JOURNAL.md): a header in a sector of its own, then records of page number, page, checksum.
-- Pages are numbered from 1 in the file. "All numbers 4 bytes, highest byte first": `big` and `bytes_of` of crate word.
use Rattle.std.specs.Prelude.{ℕ, zero, suc, ◌+◌, ◌-◌, ◌/◌, ◌%◌, ◌^◌, Bool, true, false, ◌&&◌, ◌||◌, List, [], ◌∷◌, ◌++◌, length, take, drop, replicate, ◌==◌, nat_le, slice_index}
use Rattle.word.specs.Word.{big, bytes_of}
use Rattle.record.specs.Part.{part}

-- d9 d5 05 f9 20 a1 63 d7
unfoldable pub first_bytes : List ℕ
first_bytes = 217 ∷ 213 ∷ 5 ∷ 249 ∷ 32 ∷ 161 ∷ 99 ∷ 215 ∷ []

-- the header's fields; its size in pages, at 16, is not acted on
abbrev pub count_of : List ℕ → ℕ
count_of j = big j 8

abbrev pub nonce_of : List ℕ → ℕ
nonce_of j = big j 12

abbrev pub sector_of : List ℕ → ℕ
sector_of j = big j 20

abbrev pub size_of : List ℕ → ℕ
size_of j = big j 24

-- 01's page sizes
unfoldable pub is_size : ℕ → Bool
is_size n = n == 512 || n == 1024 || n == 2048 || n == 4096

-- "power of two, 32 to 65,536"
unfoldable pub is_sector : ℕ → Bool
is_sector n =
    (n == 32) || n == 64 || n == 128 || n == 256 || n == 512 || n == 1024
    || n == 2048 || n == 4096 || n == 8192 || n == 16384 || n == 32768 || n == 65536

-- so many bytes are 1 to 1,024 whole pages
unfoldable pub whole_pages : ℕ → ℕ → Bool
whole_pages size n = n % size == 0 && nat_le 1 (n / size) && nat_le (n / size) 1024

-- the two lists are the same
unfoldable pub same : List ℕ → List ℕ → Bool
same [] [] = true
same (x ∷ l) (y ∷ m) = x == y && same l m
same [] (y ∷ m) = false
same (x ∷ l) [] = false

-- a header for pages of this size: 28 bytes at least, the first bytes, a sector size, the page size given. Padding is not looked at
unfoldable pub is_header : ℕ → List ℕ → Bool
is_header size j = nat_le 28 (length j) && same (take 8 j) first_bytes && is_sector (sector_of j) && size_of j == size

-- every 200th byte of a page, so many of them, down from a place: page[at − 200] + page[at − 400] + …
unfoldable pub spaced : ℕ → List ℕ → ℕ → ℕ
spaced zero page at = 0
spaced (suc n) page at = slice_index page (at - 200) + spaced n page (at - 200)

-- "nonce + page[P − 200] + page[P − 400] + … (places above 0), modulo 2^32": (P − 1) / 200 places are above 0
unfoldable pub checksum : ℕ → ℕ → List ℕ → ℕ
checksum nonce size page = (nonce + spaced ((size - 1) / 200) page size) % 2 ^ 32

-- a record: the page's number and the page as it was
pub record Saved : Type 0 where
  pub number : ℕ
  pub image : List ℕ

-- the record at the front of these bytes; the checksum that it carries
abbrev pub saved_of : ℕ → List ℕ → Saved
saved_of size l = record { number = big l 0; image = part 4 size l }

abbrev pub sum_of : ℕ → List ℕ → ℕ
sum_of size l = big l (4 + size)

-- the first k records of these bytes
unfoldable pub records : ℕ → ℕ → List ℕ → List Saved
records zero size l = []
records (suc k) size l = saved_of size l ∷ records k size (drop (size + 8) l)

-- a record's bytes; those of several
unfoldable pub record_bytes : ℕ → ℕ → Saved → List ℕ
record_bytes nonce size r = bytes_of r.number ++ (r.image ++ bytes_of (checksum nonce size r.image))

unfoldable pub records_bytes : ℕ → ℕ → List Saved → List ℕ
records_bytes nonce size [] = []
records_bytes nonce size (r ∷ rs) = record_bytes nonce size r ++ records_bytes nonce size rs

-- a header: first bytes, page count, nonce, size in pages, sector size, page size; then zeros up to the sector's end
unfoldable pub header_bytes : ℕ → ℕ → ℕ → ℕ → ℕ → List ℕ
header_bytes count nonce pages sector size =
    first_bytes ++ (bytes_of count ++ (bytes_of nonce ++ (bytes_of pages ++ (bytes_of sector ++ (bytes_of size ++ replicate (sector - 28) 0)))))
