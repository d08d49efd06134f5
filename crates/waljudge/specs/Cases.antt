-- The worked examples of docs/WAL.md, decided by computation on the definitions that the promises cite.
use Rattle.std.specs.Prelude.{ℕ, zero, suc, ◌+◌, ◌≡◌, refl, true, false, List, [], ◌∷◌, ◌++◌}
use Rattle.word.specs.Word.{num, big as field, bytes_of}
use Rattle.record.specs.Rows.{any}
use Rattle.wal.specs.Sum.{fields_of, word_at, no_sums, paired, summed}
use Rattle.wal.specs.Layout.{is_page_size, is_header, head_in, opened, frame_sums, is_valid, frames_from, valid_frames}
use Rattle.wal.specs.Written.{head_fields, head_of, head_bytes, image_sums, frame_bytes, frames_bytes, written}
use Rattle.waljudge.specs.Judge.{up_to_commit, last_place, judged, found_in}

-- n numbers from k on
unfoldable pub counted : ℕ → ℕ → List ℕ
counted zero k = []
counted (suc n) k = k ∷ counted n (k + 1)

-- "sums of the 8 bytes 01 02 ... 08 from (0, 0)"
pub eight_little : summed false 1 (counted 8 1) 0 no_sums ≡ record { s0 = 67305985; s1 = 201984006 }
unfolding summed paired word_at field num counted
eight_little = refl

pub eight_big : summed true 1 (counted 8 1) 0 no_sums ≡ record { s0 = 16909060; s1 = 101190156 }
unfolding summed paired word_at field num counted
eight_big = refl

-- page size 512, sequence 7, salts deadbeef 01020304; one frame: page 6, page count 8, image byte j = j mod 256
unfoldable pub image : List ℕ
unfolding counted
image = counted 256 0 ++ counted 256 0

-- the header's fields, the frame's fields, the image
unfoldable pub little : List ℕ
unfolding image fields_of bytes_of
little = fields_of (931071618 ∷ 3007000 ∷ 512 ∷ 7 ∷ 3735928559 ∷ 16909060 ∷ 3414798577 ∷ 2389084823 ∷ []) ++ (fields_of (6 ∷ 8 ∷ 3735928559 ∷ 16909060 ∷ 119012315 ∷ 4110018594 ∷ []) ++ image)

unfoldable pub big : List ℕ
unfolding image fields_of bytes_of
big = fields_of (931071619 ∷ 3007000 ∷ 512 ∷ 7 ∷ 3735928559 ∷ 16909060 ∷ 4105341389 ∷ 2626512529 ∷ []) ++ (fields_of (6 ∷ 8 ∷ 3735928559 ∷ 16909060 ∷ 382345536 ∷ 332776540 ∷ []) ++ image)

-- "1 valid, commit frame ends at 568, page 6's image begins at 56"
pub little_judged : judged little ≡ record { code = 0; frames = 1; end = 568 }
unfolding judged opened is_header is_page_size head_in valid_frames frames_from is_valid frame_sums summed paired word_at field num any last_place little image fields_of bytes_of counted
little_judged = refl

pub big_judged : judged big ≡ record { code = 0; frames = 1; end = 568 }
unfolding judged opened is_header is_page_size head_in valid_frames frames_from is_valid frame_sums summed paired word_at field num any last_place big image fields_of bytes_of counted
big_judged = refl

pub little_found : found_in little 6 ≡ record { code = 0; found = 1; at = 56 }
unfolding found_in opened is_header is_page_size head_in valid_frames frames_from is_valid frame_sums summed paired word_at field num any last_place up_to_commit little image fields_of bytes_of counted
little_found = refl

pub big_found : found_in big 6 ≡ record { code = 0; found = 1; at = 56 }
unfolding found_in opened is_header is_page_size head_in valid_frames frames_from is_valid frame_sums summed paired word_at field num any last_place up_to_commit big image fields_of bytes_of counted
big_found = refl

-- and it is what is written of these pages: page 5 from 0, of 8
pub little_written : written false 512 7 3735928559 16909060 (λ (p : ℕ). image) 8 (5 ∷ []) ≡ little
unfolding written head_bytes head_fields head_of frames_bytes frame_bytes image_sums summed paired word_at field num little image fields_of bytes_of counted
little_written = refl

pub big_written : written true 512 7 3735928559 16909060 (λ (p : ℕ). image) 8 (5 ∷ []) ≡ big
unfolding written head_bytes head_fields head_of frames_bytes frame_bytes image_sums summed paired word_at field num big image fields_of bytes_of counted
big_written = refl

-- a page that no frame has; page 0
pub little_absent : found_in little 5 ≡ record { code = 0; found = 0; at = 0 }
unfolding found_in opened is_header is_page_size head_in valid_frames frames_from is_valid frame_sums summed paired word_at field num any last_place up_to_commit little image fields_of bytes_of counted
little_absent = refl

pub little_zero : found_in little 0 ≡ record { code = 2; found = 0; at = 0 }
unfolding found_in
little_zero = refl
