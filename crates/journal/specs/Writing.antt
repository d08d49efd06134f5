-- Writing a journal for a list of pages, which are numbered from 0 there.
use Rattle.std.specs.Prelude.{ℕ, ◌+◌, ◌*◌, ◌/◌, Bool, List, ◌++◌, map, length, nat_lt}
use Rattle.std.specs.List.{list_any}
use Rattle.record.specs.Part.{part}
use Rattle.journal.specs.Layout.{Saved, header_bytes, records_bytes}

-- a listed page lies past so many lent bytes
unfoldable pub any_past : ℕ → ℕ → List ℕ → Bool
any_past lent size list = list_any (λ p. nat_lt lent ((p + 1) * size)) list

-- a page as it is
abbrev pub saved_page : ℕ → List ℕ → ℕ → Saved
saved_page size pages p = record { number = p + 1; image = part (p * size) size pages }

-- a journal's length
abbrev pub journal_length : ℕ → ℕ → ℕ → ℕ
journal_length sector size n = sector + n * (size + 8)

-- the header, then a record for each page listed; its size in pages is that of the lent ones
unfoldable pub journal_bytes : List ℕ → List ℕ → ℕ → ℕ → ℕ → List ℕ
journal_bytes pages list size nonce sector =
    header_bytes (length list) nonce (length pages / size) sector size ++ records_bytes nonce size (map (saved_page size pages) list)
