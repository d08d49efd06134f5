-- The history as C hears it: by the code of each reply. 0 is done; any other code, and nothing has happened.
use Rattle.std.specs.Prelude.{ℕ, Bool, cond, ◌||◌, List, eqb}
use Rattle.rules.specs.declared.Params.{Params}
use Rattle.rules.specs.declared.Reply.{Reply}
use Rattle.history.specs.Past.{Past, fresh}
use Rattle.history.specs.Run.{Call, taken}

-- code 0, and the history is k; else it is h, as it was
unfoldable pub heard_as : Past → Past → Reply → Past
heard_as h k r = cond (eqb r.code 0) k h

-- a call but format
abbrev pub heard : Past → Call → Reply → Past
heard h c r = heard_as h (taken h c) r

-- a format of a store with these stored pages
abbrev pub heard_format : Past → Params → ℕ → List ℕ → Reply → Past
heard_format h g last stored r = heard_as h (fresh g last stored) r

-- a full table or log: 7 or 8
unfoldable pub says_full : Reply → Bool
says_full r = eqb r.code 7 || eqb r.code 8
