-- What stands in a log that was written: its header is good, each of its frames is valid.
use Prim.Native.Nat.{ℕ, zero, suc, ◌+◌, ◌*◌, ◌/◌, ◌%◌, ◌^◌, ◌≤◌, ◌<◌}
use native.Mathlib.Omega.{arith}
use mathlib.Core.Path.{◌≡◌, refl, ap, ◌∙◌}
use mathlib.Core.Bool.{Bool, true, false, ◌&&◌, ◌||◌}
use mathlib.Core.List.{List, [], ◌∷◌, ◌++◌}
use lib.ListN.{length}
use lib.Dec.{eqb}
use borrow.Author.Tests.{le-leb, eq-eqb}
use Rattle.word.specs.Word.{num, big as field, bytes_of}
use Rattle.word.proofs.Tests.{and_in}
use Rattle.wal.specs.declared.Sums.{Sums}
use Rattle.wal.specs.declared.Header.{Header}
use Rattle.std.specs.Prelude.{Ok, Some}
use Rattle.word.proofs.Bigs.{big_front}
use Rattle.wal.specs.Sum.{fields_of, word_at, no_sums, paired, summed}
use Rattle.wal.specs.Layout.{magic_of, version, is_page_size, is_header, head_in, holds_sums, opened, frame_sums, is_valid, seen}
use Rattle.wal.specs.Written.{head_fields, head_of, head_bytes, image_sums, frame_bytes}
use Rattle.wal.proofs.Puts.{frame_summed}

-- sums are below 2^32
unfoldable pub Below : Sums → Type 0
Below s = (s.s0 < 2 ^ 32) × (s.s1 < 2 ^ 32)

pub summed_below : (big : Bool) (n : ℕ) (l : List ℕ) (at : ℕ) (s : Sums) → Below s → Below (summed big n l at s)
unfolding summed Below paired
summed_below big zero l at s h = h
summed_below big (suc n) l at s h = summed_below big n l (at + 8) (paired s (word_at big l at) (word_at big l (at + 4))) (omega arith, omega arith)

pub summed_some : (big : Bool) (n : ℕ) (l : List ℕ) (at : ℕ) (s : Sums) → Below (summed big (suc n) l at s)
unfolding summed Below paired
summed_some big n l at s = summed_below big n l (at + 8) (paired s (word_at big l at) (word_at big l (at + 4))) (omega arith, omega arith)

pub head_below : (big : Bool) (size sequence a b : ℕ) → Below (head_of big size sequence a b).sums
unfolding head_of
head_below big size sequence a b = summed_some big 2 (head_fields big size sequence a b) 0 no_sums

pub image_below : (h : Header) (s : Sums) (page commit : ℕ) (image : List ℕ) → Below (image_sums h s page commit image)
unfolding image_sums
image_below h s page commit image = summed_below h.big (h.size / 8) image 0 (summed h.big 1 (fields_of (page ∷ commit ∷ [])) 0 s) (summed_some h.big 0 (fields_of (page ∷ commit ∷ [])) 0 s)

-- two fields that hold these sums hold them
sums_held : (l : List ℕ) (at : ℕ) (s : Sums) → field l at ≡ s.s0 → field l (at + 4) ≡ s.s1 → holds_sums l at s ≡ true
sums_held l at s a b = and_in (eqb (field l at) s.s0) (eqb (field l (at + 4)) s.s1) (eq-eqb (field l at) s.s0 a) (eq-eqb (field l (at + 4)) s.s1 b)

-- the header of a log that was written is good
module _ (big : Bool) (size sequence a b : ℕ) (rest : List ℕ) (zs : is_page_size size ≡ true) (small : size < 2 ^ 32) (ha : a < 2 ^ 32) (hb : b < 2 ^ 32) where
  abbrev log : List ℕ
  log = head_bytes big size sequence a b ++ rest

  header_size : field log 8 ≡ size
  unfolding head_bytes head_fields fields_of field bytes_of
  header_size = big_front size [] small

  header_magic : (field log 0 ≡ magic_of big) × (field log 4 ≡ version)
  unfolding head_bytes head_fields fields_of field bytes_of
  header_magic = go big
    where
      go : (x : Bool) → (magic_of x / 16777216 % 256 * 16777216 + magic_of x / 65536 % 256 * 65536 + magic_of x / 256 % 256 * 256 + magic_of x % 256 ≡ magic_of x) × (version / 16777216 % 256 * 16777216 + version / 65536 % 256 * 65536 + version / 256 % 256 * 256 + version % 256 ≡ version)
      go true = (refl, refl)
      go false = (refl, refl)

  header_is : is_header log ≡ true
  unfolding is_header
  header_is = rw (header_magic.0, header_magic.1, header_size) (go big)
    where
      go : (x : Bool) → ((eqb (magic_of x) (magic_of false) || eqb (magic_of x) (magic_of true)) && eqb version version && is_page_size size) ≡ true
      go true = zs
      go false = zs

  header_big : eqb (field log 0) (magic_of true) ≡ big
  header_big = ap (λ (x : ℕ). eqb x (magic_of true)) header_magic.0 ∙ go big
    where
      go : (x : Bool) → eqb (magic_of x) (magic_of true) ≡ x
      go true = refl
      go false = refl

  header_sums : (x : Bool) → summed x 3 log 0 no_sums ≡ summed x 3 (head_fields big size sequence a b) 0 no_sums
  unfolding head_bytes head_fields fields_of summed paired word_at field num bytes_of
  header_sums true = refl
  header_sums false = refl

  salts : (field log 16 ≡ a) × (field log 20 ≡ b)
  unfolding head_bytes head_fields fields_of field bytes_of
  salts = (big_front a [] ha, big_front b [] hb)

  header_in : head_in log ≡ head_of big size sequence a b
  unfolding head_in head_of
  header_in =
      let e : summed (eqb (field log 0) (magic_of true)) 3 log 0 no_sums ≡ summed big 3 (head_fields big size sequence a b) 0 no_sums = ap (λ (x : Bool). summed x 3 log 0 no_sums) header_big ∙ header_sums big in
      λ i. record { big = header_big i; size = header_size i; salt1 = salts.0 i; salt2 = salts.1 i; sums = e i }

  header_holds : holds_sums log 24 (head_of big size sequence a b).sums ≡ true
  unfolding head_bytes head_fields fields_of field Below bytes_of
  header_holds =
      let k = head_below big size sequence a b in
      sums_held log 24 (head_of big size sequence a b).sums (big_front (head_of big size sequence a b).sums.s0 [] k.0) (big_front (head_of big size sequence a b).sums.s1 [] k.1)

  header_length : 32 ≤ length log
  unfolding head_bytes head_fields fields_of bytes_of
  header_length = omega arith

  pub log_opened : opened log ≡ Ok (head_of big size sequence a b)
  unfolding opened
  log_opened =
      let e : holds_sums log 24 (head_in log).sums ≡ true = ap (λ (x : Header). holds_sums log 24 x.sums) header_in ∙ header_holds in
      rw (le-leb 32 (length log) header_length, header_is, e) (ap Ok header_in)

-- a frame that was written is valid, and says its page number and its commit field
module _ (h : Header) (s : Sums) (page commit : ℕ) (image : List ℕ) (hp : page < 2 ^ 32) (hc : commit < 2 ^ 32) (ha : h.salt1 < 2 ^ 32) (hb : h.salt2 < 2 ^ 32) where
  abbrev frame : List ℕ
  frame = frame_bytes h s page commit image

  frame_sums_are : frame_sums h s frame ≡ image_sums h s page commit image
  unfolding frame_bytes fields_of bytes_of
  frame_sums_are = frame_summed h s page commit h.salt1 h.salt2 (fields_of ((image_sums h s page commit image).s0 ∷ (image_sums h s page commit image).s1 ∷ []) ++ image)

  frame_salts : (eqb (field frame 8) h.salt1 && eqb (field frame 12) h.salt2) ≡ true
  unfolding frame_bytes fields_of field bytes_of
  frame_salts = and_in (eqb (field frame 8) h.salt1) (eqb (field frame 12) h.salt2) (eq-eqb (field frame 8) h.salt1 (big_front h.salt1 [] ha)) (eq-eqb (field frame 12) h.salt2 (big_front h.salt2 [] hb))

  frame_holds : holds_sums frame 16 (image_sums h s page commit image) ≡ true
  unfolding frame_bytes fields_of field Below bytes_of
  frame_holds =
      let k = image_below h s page commit image in
      sums_held frame 16 (image_sums h s page commit image) (big_front (image_sums h s page commit image).s0 [] k.0) (big_front (image_sums h s page commit image).s1 [] k.1)

  names : (field frame 0 ≡ page) × (field frame 4 ≡ commit)
  unfolding frame_bytes fields_of field bytes_of
  names = (big_front page [] hp, big_front commit [] hc)

  frame_valid : is_valid h s frame ≡ true
  unfolding is_valid
  frame_valid = and_in (eqb (field frame 8) h.salt1 && eqb (field frame 12) h.salt2) (holds_sums frame 16 (frame_sums h s frame)) frame_salts (ap (λ (x : Sums). holds_sums frame 16 x) frame_sums_are ∙ frame_holds)

  pub frame_seen : seen h s frame ≡ Some (record { page = page; commit = commit; sums = image_sums h s page commit image })
  unfolding seen
  frame_seen = rw frame_valid (λ i. Some (record { page = names.0 i; commit = names.1 i; sums = frame_sums_are i }))
