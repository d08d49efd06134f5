-- Tests of every row, of each two, of one at least: of rows appended, of rows kept, and of committed rows as the log's records make them.
-- Soundness is such tests, and the invariant names its rows as appended, kept and numbered ones.
use Prim.Native.Nat.{ℕ, suc, ◌+◌, ◌<◌}
use native.Mathlib.Omega.{arith}
use mathlib.Core.Path.{◌≡◌, refl, ap, ◌∙◌}
use mathlib.Core.Bool.{Bool, true, false, not, ◌||◌}
use mathlib.Core.List.{List, [], ◌∷◌, ◌++◌}
use lib.ListN.{length, get_or}
use Rattle.word.proofs.Tests.{and_both, and_in}
use Rattle.record.specs.Rows.{rows, keep, any}
use Rattle.record.specs.Record.{entered}
use Rattle.rules.proofs.Every.{every_kept_where}
use Rattle.record.proofs.Rows.{Wide, none, one}
use Rattle.rules.specs.Sound.{every}
use Rattle.redo.proofs.View.{keep_append}
use Rattle.redo.proofs.Views.{keep_none}
use Rattle.redo.proofs.Loose.{◌≅◌, numbered_from, ≅-every}
use Rattle.seats.proofs.Loops.{any_by}
use Rattle.keeps.proofs.Tests.{every_append}

-- what follows from a test that holds
or_of : (a b : Bool) → a ≡ true → (not a || b) ≡ true → b ≡ true
or_of true b h k = k
or_of false b h k = let z : ◌≡◌ {A = ℕ} 0 1 = cc in absurd (omega arith)

-- every row before others
pub every_front : (c : List ℕ → Bool) (l m : List (List ℕ)) → every c (l ++ m) ≡ true → every c l ≡ true
unfolding every
every_front c [] m h = refl
every_front c (r ∷ l) m h =
    let e : (c r ≡ true) × (every c (l ++ m) ≡ true) = and_both (c r) (every c (l ++ m)) h in
    and_in (c r) (every c l) e.0 (every_front c l m e.1)

-- those kept: what follows from the test that kept them
pub every_picked : (a c : List ℕ → Bool) (l : List (List ℕ)) → every (λ (r : List ℕ). not (a r) || c r) l ≡ true → every c (keep a l) ≡ true
every_picked a c l h = every_kept_where a (λ (r : List ℕ). not (a r) || c r) c (λ r e k. or_of (a r) (c r) e k) l h

-- rows that are those picked, then others, but for swaps: each passes what they pass
pub online_all : (above : List ℕ → Bool) (rows opened : List (List ℕ)) {online : List (List ℕ)} → online ≅ keep above rows ++ opened
    → (c : List ℕ → Bool) → every (λ (r : List ℕ). not (above r) || c r) rows ≡ true → every c opened ≡ true → every c online ≡ true
online_all above rows opened is c h k = ≅-every c is ∙ every_append c (keep above rows) opened (every_picked above c rows h) k

-- rows of which none passes, before others
pub keep_behind : (c : List ℕ → Bool) (l m : List (List ℕ)) → every (λ (r : List ℕ). not (c r)) l ≡ true → keep c (l ++ m) ≡ keep c m
keep_behind c l m h = keep_append c l m ∙ ap (λ (k : List (List ℕ)). k ++ keep c m) (keep_none c l h)

pub any_behind : (c : List ℕ → Bool) (l m : List (List ℕ)) → every (λ (r : List ℕ). not (c r)) l ≡ true → any c (l ++ m) ≡ any c m
any_behind c l m h = any_by c (l ++ m) m (keep_behind c l m h)

-- what each of the rows that log records make passes
pub every_numbered : (c : List ℕ → Bool) (k : ℕ) (l : List (List ℕ)) → Wide 14 l → ((i : ℕ) → i < length l → length (get_or l i []) ≡ 14 → c (entered (get_or l i []) (k + i)) ≡ true) → every c (numbered_from k l) ≡ true
unfolding every numbered_from
every_numbered c k [] none h = refl
every_numbered c k (b ∷ l) (one e w) h =
    and_in (c (entered b k)) (every c (numbered_from (k + 1) l))
    (ap (λ (n : ℕ). c (entered b n)) (omega arith) ∙ h 0 (omega arith) e)
    (every_numbered c (k + 1) l w (λ i p q. ap (λ (n : ℕ). c (entered (get_or l i []) n)) (omega arith) ∙ h (suc i) (omega arith) q))
