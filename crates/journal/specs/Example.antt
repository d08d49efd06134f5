-- A worked example, by computation on the definitions: page size 512, sector size 32, nonce fffffff0, one page with byte j = j mod 256.
use Rattle.std.specs.Prelude.{◌≡◌, ℕ, zero, suc, ◌+◌, ◌%◌, List, [], ◌∷◌, ◌++◌, length, take, replicate, slice_index, slice_set, refl}
use Rattle.word.specs.Word.{big, bytes_of}
use Rattle.journal.specs.Layout.{first_bytes, is_size, is_sector, whole_pages, same, is_header, spaced, checksum, records, record_bytes, records_bytes, header_bytes}
use Rattle.journal.specs.Playing.{counted, fault_of, run, run_of, to_restore, outside, with_saved, restored}
use Rattle.journal.specs.Writing.{any_past, journal_bytes}
use Rattle.journal.specs.Calls.{Outcome, refuse_if, judge_play, play_call, judge_write, write_call}

-- n bytes i, i + 1, … by remainder of 256
unfoldable pub counting : ℕ → ℕ → List ℕ
counting zero i = []
counting (suc n) i = i % 256 ∷ counting n (i + 1)

unfoldable pub page : List ℕ
page = counting 512 0

-- d9d505f9 20a163d7 00000001 fffffff0 00000001 00000020 00000200 00000000, then 00000001, the page, 00000098
unfoldable pub file : List ℕ
file =
    (0xd9 ∷ 0xd5 ∷ 0x05 ∷ 0xf9 ∷ 0x20 ∷ 0xa1 ∷ 0x63 ∷ 0xd7 ∷ 0 ∷ 0 ∷ 0 ∷ 1 ∷ 0xff ∷ 0xff ∷ 0xff ∷ 0xf0
    ∷ 0 ∷ 0 ∷ 0 ∷ 1 ∷ 0 ∷ 0 ∷ 0 ∷ 0x20 ∷ 0 ∷ 0 ∷ 2 ∷ 0 ∷ 0 ∷ 0 ∷ 0 ∷ 0
    ∷ 0 ∷ 0 ∷ 0 ∷ 1 ∷ [])
    ++ (page ++ (0 ∷ 0 ∷ 0 ∷ 0x98 ∷ []))

-- what a call tells, and three of the bytes that it leaves
abbrev shown : Outcome → List ℕ
shown o = o.reply.code ∷ o.reply.ended ∷ o.reply.records ∷ slice_index o.bytes 0 ∷ slice_index o.bytes 511 ∷ slice_index o.bytes 512 ∷ []

abbrev written : List ℕ → Outcome
written target = write_call page (0 ∷ []) target 512 4294967280 32

abbrev played : List ℕ → Outcome
played j = play_call j (replicate 512 7) 512

pub bytes_of_it : length file ≡ 552
unfolding file page counting
bytes_of_it = refl

-- written to a target of 555 bytes, of which the last three stay
pub is_written : (written (replicate 555 9)).bytes ≡ file ++ (9 ∷ 9 ∷ 9 ∷ [])
unfolding write_call judge_write refuse_if any_past is_size is_sector whole_pages journal_bytes header_bytes records_bytes record_bytes first_bytes bytes_of checksum spaced file page counting
is_written = refl

-- played over a page of other bytes
pub is_played : (played file).bytes ≡ page
unfolding play_call judge_play refuse_if is_size is_sector whole_pages is_header same first_bytes big run_of run counted fault_of to_restore records outside restored with_saved checksum spaced file page counting
is_played = refl

-- Further cases, with expected values worked out by hand: two lent pages of the byte 7, nonce 0, sector size 32. The checksum of a page of one
-- byte sums it at two places.
abbrev head : ℕ → ℕ → List ℕ → List ℕ
head count size padding =
    0xd9 ∷ 0xd5 ∷ 0x05 ∷ 0xf9 ∷ 0x20 ∷ 0xa1 ∷ 0x63 ∷ 0xd7 ∷ 0 ∷ 0 ∷ 0 ∷ count ∷ 0 ∷ 0 ∷ 0 ∷ 0
    ∷ 0 ∷ 0 ∷ 0 ∷ 9 ∷ 0 ∷ 0 ∷ 0 ∷ 32 ∷ 0 ∷ 0 ∷ size ∷ 0 ∷ padding

abbrev zeros : List ℕ
zeros = 0 ∷ 0 ∷ 0 ∷ 0 ∷ []

-- a record of a page of the byte b
abbrev saved : ℕ → ℕ → ℕ → List ℕ
saved number b sum = 0 ∷ 0 ∷ 0 ∷ number ∷ (replicate 512 b ++ (0 ∷ 0 ∷ 0 ∷ sum ∷ []))

abbrev over : ℕ → ℕ → List ℕ → List ℕ
over lent size j = shown (play_call j (replicate lent 7) size)

-- the header's page count is all ones
unfoldable pub ones : List ℕ → List ℕ
ones l = slice_set (slice_set (slice_set (slice_set (head 0 2 zeros ++ l) 8 255) 9 255) 10 255) 11 255

pub plays :
    over 1024 512 (head 2 2 zeros ++ (saved 1 5 10 ++ saved 2 6 12))
    ∷ over 1024 512 (head 2 2 (1 ∷ 2 ∷ 3 ∷ 4 ∷ []) ++ (saved 1 5 10 ++ saved 2 6 12))
    ∷ over 1024 512 (head 2 2 zeros ++ (saved 1 5 10 ++ saved 1 6 12))
    ∷ over 1024 512 (head 3 2 zeros ++ (saved 1 5 10 ++ (saved 2 6 13 ++ saved 2 4 8)))
    ∷ over 1024 512 (head 3 2 zeros ++ (saved 1 5 10 ++ take 519 (saved 2 6 12)))
    ∷ over 1024 512 (ones (saved 1 5 10 ++ (saved 2 6 12 ++ zeros)))
    ∷ over 1024 512 (ones (saved 1 5 10 ++ (saved 2 6 13 ++ zeros)))
    ∷ over 1024 512 (head 2 2 zeros ++ (saved 1 5 10 ++ saved 0 6 12))
    ∷ over 1024 512 (head 2 2 zeros ++ (saved 1 5 10 ++ saved 3 6 12))
    ∷ over 1024 512 (head 2 2 zeros ++ (saved 1 5 10 ++ saved 0 6 13))
    ∷ over 1024 512 (head 0 2 [])
    ∷ over 1024 512 (head 1 2 [])
    ∷ over 1024 512 (take 27 (head 0 2 []))
    ∷ over 1024 512 (slice_set (head 0 2 zeros) 7 0)
    ∷ over 1024 512 (slice_set (head 0 2 zeros) 23 48)
    ∷ over 1024 512 (head 0 4 zeros)
    ∷ over 1000 512 (head 0 4 zeros)
    ∷ over 1000 500 (head 0 4 zeros)
    ∷ []
    ≡ (0 ∷ 0 ∷ 2 ∷ 5 ∷ 5 ∷ 6 ∷ [])
    ∷ (0 ∷ 0 ∷ 2 ∷ 5 ∷ 5 ∷ 6 ∷ [])
    ∷ (0 ∷ 0 ∷ 2 ∷ 6 ∷ 6 ∷ 7 ∷ [])
    ∷ (0 ∷ 2 ∷ 1 ∷ 5 ∷ 5 ∷ 7 ∷ [])
    ∷ (0 ∷ 1 ∷ 1 ∷ 5 ∷ 5 ∷ 7 ∷ [])
    ∷ (0 ∷ 0 ∷ 2 ∷ 5 ∷ 5 ∷ 6 ∷ [])
    ∷ (0 ∷ 2 ∷ 1 ∷ 5 ∷ 5 ∷ 7 ∷ [])
    ∷ (30 ∷ 0 ∷ 0 ∷ 7 ∷ 7 ∷ 7 ∷ [])
    ∷ (30 ∷ 0 ∷ 0 ∷ 7 ∷ 7 ∷ 7 ∷ [])
    ∷ (0 ∷ 2 ∷ 1 ∷ 5 ∷ 5 ∷ 7 ∷ [])
    ∷ (0 ∷ 0 ∷ 0 ∷ 7 ∷ 7 ∷ 7 ∷ [])
    ∷ (0 ∷ 1 ∷ 0 ∷ 7 ∷ 7 ∷ 7 ∷ [])
    ∷ (29 ∷ 0 ∷ 0 ∷ 7 ∷ 7 ∷ 7 ∷ [])
    ∷ (29 ∷ 0 ∷ 0 ∷ 7 ∷ 7 ∷ 7 ∷ [])
    ∷ (29 ∷ 0 ∷ 0 ∷ 7 ∷ 7 ∷ 7 ∷ [])
    ∷ (29 ∷ 0 ∷ 0 ∷ 7 ∷ 7 ∷ 7 ∷ [])
    ∷ (27 ∷ 0 ∷ 0 ∷ 7 ∷ 7 ∷ 7 ∷ [])
    ∷ (26 ∷ 0 ∷ 0 ∷ 7 ∷ 7 ∷ 7 ∷ [])
    ∷ []
unfolding ones play_call judge_play refuse_if is_size is_sector whole_pages is_header same first_bytes big run_of run counted fault_of to_restore records outside restored with_saved checksum spaced
plays = refl

-- refusals of writing, each where the later ones hold too: a page past the lent ones, a size, lengths, the target, the list
abbrev wrote : ℕ → List ℕ → ℕ → ℕ → ℕ → List ℕ
wrote lent list room size sector = shown (write_call (replicate lent 7) list (replicate room 3) size 0 sector)

pub writes :
    wrote 1000 (1 ∷ []) 0 512 33 ∷ wrote 1000 [] 0 512 33 ∷ wrote 1000 [] 0 512 32 ∷ wrote 1024 [] 31 512 32 ∷ wrote 1024 [] 32 512 32 ∷ wrote 1024 (1 ∷ 1 ∷ []) 1071 512 32
    ∷ wrote 1024 (1 ∷ 1 ∷ []) 1072 512 32 ∷ []
    ≡ (20 ∷ 0 ∷ 0 ∷ 0 ∷ 0 ∷ 0 ∷ []) ∷ (26 ∷ 0 ∷ 0 ∷ 0 ∷ 0 ∷ 0 ∷ []) ∷ (27 ∷ 0 ∷ 0 ∷ 0 ∷ 0 ∷ 0 ∷ []) ∷ (14 ∷ 0 ∷ 0 ∷ 3 ∷ 0 ∷ 0 ∷ []) ∷ (15 ∷ 0 ∷ 0 ∷ 3 ∷ 0 ∷ 0 ∷ []) ∷ (14 ∷ 0 ∷ 0 ∷ 3 ∷ 3 ∷ 3 ∷ [])
    ∷ (0 ∷ 0 ∷ 2 ∷ 0xd9 ∷ 7 ∷ 7 ∷ []) ∷ []
unfolding write_call judge_write refuse_if any_past is_size is_sector whole_pages journal_bytes header_bytes records_bytes record_bytes first_bytes bytes_of checksum spaced
writes = refl
