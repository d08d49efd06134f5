-- Laws of stamps written from page 0 on, of the parameters, and of the areas of a fresh store.
use Prim.Native.Nat.{ℕ, zero, suc, ◌+◌, ◌-◌, ◌/◌, ◌%◌, ◌≤◌, ◌<◌}
use native.Mathlib.Omega.{arith}
use mathlib.Core.Path.{◌≡◌, refl, sym, ap, ◌∙◌}
use mathlib.Core.List.{List, [], ◌∷◌, ◌++◌}
use lib.ListN.{length, set, take, replicate, length-set}
use lib.Seq.{take_all, take-suc-set}
use Rattle.word.specs.Word.{put}
use Rattle.word.proofs.Laws.{length_put}
use Rattle.rules.specs.declared.Params.{Params}
use Rattle.rules.specs.Lent.{stamp_at, lent_of, fixed_of}
use Rattle.rules.specs.Steps.{stamped, formatted}

-- `stamp_all`: a turn and the end
pub stamp_turn : (n p last : ℕ) (ms ms' h : List ℕ) → p < n → ms' ≡ put 4 ms (stamp_at p) last → stamped (n - p) p last ms ≡ h → stamped (n - (p + 1)) (p + 1) last ms' ≡ h
unfolding stamped
stamp_turn n p last ms ms' h q e inv =
    let a : n - p ≡ suc (n - (p + 1)) = omega arith in
    ap (λ (x : List ℕ). stamped (n - (p + 1)) (p + 1) last x) e ∙ (rw a at inv)

pub stamp_done : (n p last : ℕ) (ms h : List ℕ) → n ≤ p → stamped (n - p) p last ms ≡ h → ms ≡ h
unfolding stamped
stamp_done n p last ms h q inv = let a : n - p ≡ 0 = omega arith in rw a at inv

-- what is written from a place on, to lists that are alike up to it, leaves them alike up to its end
puts_alike : (w : ℕ) (l k : List ℕ) (at v : ℕ) → at + w ≤ length l → length l ≡ length k → take at l ≡ take at k → take (at + w) (put w l at v) ≡ take (at + w) (put w k at v)
unfolding put
puts_alike zero l k at v h n e = let a : at + 0 ≡ at = omega arith in rw a e
puts_alike (suc w) l k at v h n e =
    let a : at + suc w ≡ at + 1 + w = omega arith in
    let b : at + 1 ≡ suc at = omega arith in
    let m : length (set l at (v % 256)) ≡ length (set k at (v % 256)) = length-set l at (v % 256) ∙ n ∙ sym (length-set k at (v % 256)) in
    let f : take (suc at) (set l at (v % 256)) ≡ take (suc at) (set k at (v % 256)) =
    take-suc-set l at (v % 256) (omega arith) ∙ ap (λ (x : List ℕ). x ++ (v % 256 ∷ [])) e ∙ sym (take-suc-set k at (v % 256) (omega arith))
    in
    rw a (puts_alike w (set l at (v % 256)) (set k at (v % 256)) (at + 1) (v / 256) (rw length-set (omega arith)) m (rw b f))

-- two lists of 20 bytes, alike up to a place
record Alike (l k : List ℕ) (n : ℕ) : Type 0 where
  one : length l ≡ 20
  other : length k ≡ 20
  front : take n l ≡ take n k

alike_next : {l k : List ℕ} (at v : ℕ) → Alike l k at → at + 4 ≤ 20 → Alike (put 4 l at v) (put 4 k at v) (at + 4)
alike_next {l} {k} at v f g =
    record {
      one = length_put 4 l at v ∙ f.one;
      other = length_put 4 k at v ∙ f.other;
      front = puts_alike 4 l k at v (rw f.one g) (f.one ∙ sym f.other) f.front;
    }

alike_whole : {l k : List ℕ} → Alike l k 20 → l ≡ k
alike_whole {l} {k} f = sym (take_all 20 l (omega (arith, f.one))) ∙ f.front ∙ take_all 20 k (omega (arith, f.other))

-- one store after another: together they leave nothing of what was there
pub fixed_made : (g : Params) (l₀ l₁ l₂ l₃ l₄ l₅ : List ℕ) → length l₀ ≡ 20
    → l₁ ≡ put 4 l₀ 0 g.size → l₂ ≡ put 4 l₁ 4 g.pages → l₃ ≡ put 4 l₂ 8 g.frames → l₄ ≡ put 4 l₃ 12 g.online → l₅ ≡ put 4 l₄ 16 g.log
    → l₅ ≡ fixed_of g
fixed_made g l₀ l₁ l₂ l₃ l₄ l₅ h a b c d e =
    let start : Alike l₀ (replicate 20 0) 0 = record { one = h; other = refl; front = refl } in
    let one = alike_next 0 g.size start (omega arith) in
    let two = alike_next 4 g.pages one (omega arith) in
    let three = alike_next 8 g.frames two (omega arith) in
    let four = alike_next 12 g.online three (omega arith) in
    rw (e, d, c, b, a) (alike_whole (alike_next 16 g.log four (omega arith)))

-- the seven areas of a fresh store
pub all_made : (f m l s t o p f' m' l' t' o' : List ℕ) (g : Params) (last : ℕ)
    → f' ≡ fixed_of g
    → m' ≡ stamped g.pages 0 last (put 4 (put 4 (replicate (length m) 0) 0 last) 4 last)
    → l' ≡ replicate (length l) 0 → t' ≡ replicate (length t) 0 → o' ≡ replicate (length o) 0
    → lent_of f' m' l' s t' o' p ≡ (formatted (lent_of f m l s t o p) g last).lent
unfolding formatted
all_made f m l s t o p f' m' l' t' o' g last a b c d e = rw (a, b, c, d, e)
