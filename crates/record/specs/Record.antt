-- A record: page, offset, length, kind and value, as a row of bytes; what applying it to a page means. docs/RULES.md 4.
-- A log row is the 14 bytes of the record. An online row has 5 more: owner and number.
use Rattle.std.specs.Prelude.{ℕ, ◌+◌, ◌%◌, ◌^◌, min, max, Bool, true, false, cond, not, ◌&&◌, ◌||◌, List, [], ◌∷◌, ◌++◌, length, get_or, take, set, replicate, eqb, leb, ltb}
use Rattle.word.specs.Word.{num, put}

-- bytes of a row: the record, and with its owner and number
abbrev pub log_width : ℕ
log_width = 14

abbrev pub online_width : ℕ
online_width = 19

abbrev pub owner_at : ℕ
owner_at = 14

abbrev pub number_at : ℕ
number_at = 15

abbrev pub page_of : List ℕ → ℕ
page_of r = num 2 r 0

abbrev pub offset_of : List ℕ → ℕ
offset_of r = num 2 r 2

abbrev pub length_of : List ℕ → ℕ
length_of r = get_or r 4 0

-- 0 a set, 1 an add
abbrev pub kind_of : List ℕ → ℕ
kind_of r = get_or r 5 0

abbrev pub value_of : List ℕ → ℕ
value_of r = num 8 r 6

-- of an online row
abbrev pub owner_of : List ℕ → ℕ
owner_of r = get_or r owner_at 0

abbrev pub number_of : List ℕ → ℕ
number_of r = num 4 r number_at

abbrev pub committed : List ℕ → Bool
committed r = eqb (owner_of r) 0

-- the log's record of an online row
abbrev pub body_of : List ℕ → List ℕ
body_of r = take log_width r

-- "length (1, 2, 4 or 8)"
unfoldable pub is_length : ℕ → Bool
is_length w = eqb w 1 || eqb w 2 || eqb w 4 || eqb w 8

-- an argument of update, or a row's record: page below pages, offset + length within the page, a kind, a value below 256 to the power of the length
unfoldable pub well_formed : ℕ → ℕ → List ℕ → Bool
well_formed size pages r = ltb (page_of r) pages && is_length (length_of r) && leb (offset_of r + length_of r) size && leb (kind_of r) 1 && ltb (value_of r) (256 ^ length_of r)

-- what stands where a value v of w bytes comes upon the number old: a set writes the value, an add "adds and keeps the remainder by that power"
unfoldable pub changed : ℕ → ℕ → ℕ → ℕ → ℕ
changed kind w old v = cond (eqb kind 1) ((old + v) % 256 ^ w) v

-- a page g with a change of w bytes at an offset; one that does not fit the page changes nothing (sound tables have none)
unfoldable pub change : ℕ → ℕ → ℕ → ℕ → List ℕ → List ℕ
change offset w kind v g = cond (leb (offset + w) (length g) && leb w 8) (put w g offset (changed kind w (num w g offset) v)) g

-- the page g with the record r applied
unfoldable pub apply : List ℕ → List ℕ → List ℕ
apply r g = change (offset_of r) (length_of r) (kind_of r) (value_of r) g

-- the page with records applied in their order
unfoldable pub applied : List (List ℕ) → List ℕ → List ℕ
applied [] g = g
applied (r ∷ rs) g = applied rs (apply r g)

-- an online row of these fields
unfoldable pub row_of : ℕ → ℕ → ℕ → ℕ → ℕ → ℕ → List ℕ
row_of page offset w kind v owner = set (put 8 (set (set (put 2 (put 2 (replicate online_width 0) 0 page) 2 offset) 4 w) 5 kind) 6 v) owner_at owner

-- an online row that is committed under a number: "clears the owner"
unfoldable pub numbered : List ℕ → ℕ → List ℕ
numbered r k = put 4 (set r owner_at 0) number_at k

-- the online row of a log record, committed under its number
unfoldable pub entered : List ℕ → ℕ → List ℕ
entered b k = put 4 (b ++ replicate 5 0) number_at k

-- the rows of a page; its committed ones; an owner's
abbrev pub on_page : ℕ → List ℕ → Bool
on_page p r = eqb (page_of r) p

abbrev pub committed_on : ℕ → List ℕ → Bool
committed_on p r = eqb (page_of r) p && committed r

abbrev pub owned_by : ℕ → List ℕ → Bool
owned_by x r = eqb (owner_of r) x

-- a page's rows, or only its committed ones
abbrev pub chosen : Bool → ℕ → List ℕ → Bool
chosen true p r = committed_on p r
chosen false p r = on_page p r

-- an owner's rows, on all pages or on one
abbrev pub gone : Bool → ℕ → ℕ → List ℕ → Bool
gone true x p r = owned_by x r
gone false x p r = on_page p r && owned_by x r

-- the owner's rows numbered from k on, "in table order"
unfoldable pub number_rows : ℕ → ℕ → List (List ℕ) → List (List ℕ)
number_rows x k [] = []
number_rows x k (r ∷ rs) = cond (owned_by x r) (numbered r k ∷ number_rows x (k + 1) rs) (r ∷ number_rows x k rs)

-- the smaller of two numbers, where 0 is none
unfoldable pub lesser : ℕ → ℕ → ℕ
lesser a b = cond (eqb a 0) b (min a b)

-- the smallest number of rows, 0 if there is none; a is the smallest so far
unfoldable pub smallest : ℕ → List (List ℕ) → ℕ
smallest a [] = a
smallest a (r ∷ rs) = smallest (lesser a (number_of r)) rs

-- the greatest number of rows; a is the greatest so far
unfoldable pub greatest : ℕ → List (List ℕ) → ℕ
greatest a [] = a
greatest a (r ∷ rs) = greatest (max a (number_of r)) rs

-- a record has one of the w bytes of page p from an offset on: neither ends before the other starts
abbrev pub overlaps : ℕ → ℕ → ℕ → List ℕ → Bool
overlaps p offset w r = eqb (page_of r) p && ltb (offset_of r) (offset + w) && ltb offset (offset_of r + length_of r)

-- two records share a byte
unfoldable pub share_byte : List ℕ → List ℕ → Bool
share_byte a b = overlaps (page_of b) (offset_of b) (length_of b) a

-- two records are free of each other: they may be applied in either order
unfoldable pub free : List ℕ → List ℕ → Bool
free a b = not (share_byte a b)
