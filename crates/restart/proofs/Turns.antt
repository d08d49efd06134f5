-- The loop that enters rows: what holds after i of the log's records, at the start, after a turn and at the end.
use Prim.Native.Nat.{ℕ, ◌+◌, ◌*◌, ◌-◌, ◌≤◌, ◌<◌}
use native.Mathlib.Omega.{arith}
use mathlib.Core.Path.{◌≡◌, refl, sym, ap, ◌∙◌}
use mathlib.Core.Bool.{Bool, true, false, cond}
use mathlib.Core.List.{List, [], ◌∷◌, ◌++◌, append_assoc, append-nil}
use lib.ListN.{length, get_or, take, drop, set, replicate, take-append-drop, length-replicate}
use lib.Seq.{drop-drop}
use Rattle.word.specs.Word.{num, put}
use Rattle.record.specs.Part.{with_part}
use Rattle.record.specs.Rows.{joined, table}
use Rattle.record.specs.Record.{page_of, entered}
use Rattle.record.proofs.Parts.{with_take, with_drop}
use Rattle.record.proofs.Laws.{drop_zeros}
use Rattle.rules.specs.Lent.{Lent, entry_at, frames_of, online_size_of}
use Rattle.rules.specs.Steps.{lost_now, entering_all, evicted_all, restarted}
use Rattle.record.proofs.Rows.{joined_cons, length_entered}
use Rattle.restart.specs.Enter.{enters_by, entering_by, all_by, Readable, Restarts}
use Rattle.restart.proofs.Laws.{rest, rest_yes, rest_no, rest_end, count_yes, count_end, entering_all_by, readable}

-- a row that was entered names the same page
entered_page : (b : List ℕ) (k : ℕ) → page_of (entered b k) ≡ page_of b
unfolding entered put num
entered_page [] k = refl
entered_page (x ∷ []) k = refl
entered_page (x ∷ y ∷ b) k = refl

evicted_cons : (frames : ℕ) (r : List ℕ) (rs : List (List ℕ)) (t : List ℕ) → evicted_all frames (r ∷ rs) t ≡ evicted_all frames rs (set t (entry_at frames (page_of r)) 1)
unfolding evicted_all
evicted_cons frames r rs t = refl

module _ (marks : List ℕ) (pages first : ℕ) (rs : List (List ℕ)) where
  abbrev pub all : List (List ℕ)
  all = entering_by marks pages first rs

  -- after i records m have entered: those still to come make all of it
  pub record Entering (frames : ℕ) (t₀ o₀ t o : List ℕ) (m i : ℕ) : Type 0 where
    pub count : m + length (rest marks pages first rs i) ≡ length all
    pub entries : evicted_all frames (rest marks pages first rs i) t ≡ evicted_all frames all t₀
    pub bytes : take (m * 19) o ++ joined (rest marks pages first rs i) ≡ joined all
    pub after : drop (m * 19) o ≡ drop (m * 19) o₀

  pub enter_none : (frames : ℕ) (t o : List ℕ) → Entering frames t o t o 0 0
  enter_none frames t o =
      let z : first + 0 ≡ first = omega arith in
      let e : rest marks pages first rs 0 ≡ all = ap (λ (k : ℕ). entering_by marks pages k rs) z in
      record {
        count = omega (arith, ap (λ (l : List (List ℕ)). length l) e);
        entries = ap (λ (l : List (List ℕ)). evicted_all frames l t) e;
        bytes = ap (λ (l : List (List ℕ)). joined l) e;
        after = refl;
      }

  module _ (frames : ℕ) (t₀ o₀ t o : List ℕ) (m i : ℕ) (inv : Entering frames t₀ o₀ t o m i) (lt : i < length rs) (fit : length all * 19 ≤ length o) where
    -- there is room for a row that enters
    pub enter_room : enters_by marks pages (first + i) (get_or rs i []) ≡ true → m * 19 + 19 ≤ length o
    enter_room e = omega (arith, inv.count, count_yes marks pages first rs i lt e)

    enter_yes : length (get_or rs i []) ≡ 14 → enters_by marks pages (first + i) (get_or rs i []) ≡ true
        → Entering frames t₀ o₀ (set t (entry_at frames (page_of (get_or rs i []))) 1) (with_part (m * 19) 19 o (entered (get_or rs i []) (first + i))) (m + 1) (i + 1)
    enter_yes width e =
        let r : List ℕ = get_or rs i [] in
        let y : List ℕ = entered r (first + i) in
        let ls : List (List ℕ) = rest marks pages first rs (i + 1) in
        let h : m * 19 + 19 ≤ length o = enter_room e in
        let b : (m + 1) * 19 ≡ m * 19 + 19 = omega arith in
        let q : rest marks pages first rs i ≡ y ∷ ls = rest_yes marks pages first rs i lt e in
        let ly : length y ≡ 19 = length_entered r (first + i) width in
        let w : List ℕ = with_part (m * 19) 19 o y in
        record {
          count = omega (arith, inv.count, ap (λ (l : List (List ℕ)). length l) q);
          entries =
              ap (λ (p : ℕ). evicted_all frames ls (set t (entry_at frames p) 1)) (sym (entered_page r (first + i)))
              ∙ sym (evicted_cons frames y ls t)
              ∙ ap (λ (l : List (List ℕ)). evicted_all frames l t) (sym q)
              ∙ inv.entries;
          bytes =
              ap (λ (l : List ℕ). l ++ joined ls) (with_take (m * 19) 19 ((m + 1) * 19) o w y h ly b refl)
              ∙ append_assoc (take (m * 19) o) y (joined ls)
              ∙ ap (λ (l : List ℕ). take (m * 19) o ++ l) (sym (ap (λ (l : List (List ℕ)). joined l) q ∙ joined_cons y ls))
              ∙ inv.bytes;
          after =
              with_drop (m * 19) 19 ((m + 1) * 19) o w y h ly b refl
              ∙ ap (λ (k : ℕ). drop k o) b ∙ sym (drop-drop 19 (m * 19) o) ∙ ap (λ (l : List ℕ). drop 19 l) inv.after ∙ drop-drop 19 (m * 19) o₀
              ∙ ap (λ (k : ℕ). drop k o₀) (sym b);
        }

    enter_no : enters_by marks pages (first + i) (get_or rs i []) ≡ false → Entering frames t₀ o₀ t o m (i + 1)
    enter_no e =
        let q : rest marks pages first rs i ≡ rest marks pages first rs (i + 1) = rest_no marks pages first rs i lt e in
        record {
          count = ap (λ (l : List (List ℕ)). m + length l) (sym q) ∙ inv.count;
          entries = ap (λ (l : List (List ℕ)). evicted_all frames l t) (sym q) ∙ inv.entries;
          bytes = ap (λ (l : List (List ℕ)). take (m * 19) o ++ joined l) (sym q) ∙ inv.bytes;
          after = inv.after;
        }

    pub enter_turn : (t' o' : List ℕ) (m' : ℕ) → length (get_or rs i []) ≡ 14
        → m' ≡ cond (enters_by marks pages (first + i) (get_or rs i [])) (m + 1) m
        → t' ≡ cond (enters_by marks pages (first + i) (get_or rs i [])) (set t (entry_at frames (page_of (get_or rs i []))) 1) t
        → o' ≡ cond (enters_by marks pages (first + i) (get_or rs i [])) (with_part (m * 19) 19 o (entered (get_or rs i []) (first + i))) o
        → Entering frames t₀ o₀ t' o' m' (i + 1)
    enter_turn t' o' m' width em et eo = rw (em, et, eo) (go (enters_by marks pages (first + i) (get_or rs i [])) refl)
      where
        go : (z : Bool) → enters_by marks pages (first + i) (get_or rs i []) ≡ z
            → Entering frames t₀ o₀ (cond z (set t (entry_at frames (page_of (get_or rs i []))) 1) t) (cond z (with_part (m * 19) 19 o (entered (get_or rs i []) (first + i))) o) (cond z (m + 1) m) (i + 1)
        go true e = enter_yes width e
        go false e = enter_no e

  pub enter_done : (frames : ℕ) (t₀ o₀ t o : List ℕ) (m i : ℕ) → Entering frames t₀ o₀ t o m i → length rs ≤ i
      → (m ≡ length all) × (t ≡ evicted_all frames all t₀) × (o ≡ joined all ++ drop (length all * 19) o₀)
  unfolding evicted_all joined
  enter_done frames t₀ o₀ t o m i inv h =
      let q : rest marks pages first rs i ≡ [] = rest_end marks pages first rs i h in
      let em : m ≡ length all = omega (arith, inv.count, count_end marks pages first rs i h) in
      let eb : take (m * 19) o ≡ joined all =
      sym (append-nil (take (m * 19) o)) ∙ ap (λ (l : List (List ℕ)). take (m * 19) o ++ joined l) (sym q) ∙ inv.bytes in (
        em,
        sym (ap (λ (l : List (List ℕ)). evicted_all frames l t) q) ∙ inv.entries,
        sym (take-append-drop (m * 19) o) ∙ ap (λ (l : List ℕ). l ++ drop (m * 19) o) eb ∙ ap (λ (l : List ℕ). joined all ++ l) inv.after
            ∙ ap (λ (k : ℕ). joined all ++ drop (k * 19) o₀) em,
      )

-- `restart`: what `enter_all` asks of cleared tables, and what it then leaves
pub restart_asks : (s : Lent) (t o : List ℕ) → Restarts s → t ≡ replicate (length s.lost.tables) 0 → o ≡ replicate (length s.lost.online) 0
    → Readable s.durable.fixed s.durable.marks s.durable.log × (35 + num 4 s.durable.fixed 8 + num 4 s.durable.fixed 4 ≤ length t) × (length (all_by s.durable.fixed s.durable.marks s.durable.log) * 19 ≤ length o)
restart_asks s t o (sized, span, last, well, few) et eo =
    let lt : length t ≡ length s.lost.tables = ap (λ (l : List ℕ). length l) et ∙ length-replicate (length s.lost.tables) 0 in
    let lo : length o ≡ length s.lost.online = ap (λ (l : List ℕ). length l) eo ∙ length-replicate (length s.lost.online) 0 in
    let q : length (entering_all s) ≡ length (all_by s.durable.fixed s.durable.marks s.durable.log) = ap (λ (l : List (List ℕ)). length l) (entering_all_by s) in
    (readable s (sized, span, last, well), omega (arith, sized.tables), omega (arith, sized.online))

pub restart_made : (s : Lent) (t o t₁ o₁ : List ℕ) → Restarts s → t ≡ replicate (length s.lost.tables) 0 → o ≡ replicate (length s.lost.online) 0
    → t₁ ≡ put 2 (evicted_all (num 4 s.durable.fixed 8) (all_by s.durable.fixed s.durable.marks s.durable.log) t) 0 (length (all_by s.durable.fixed s.durable.marks s.durable.log))
    → o₁ ≡ joined (all_by s.durable.fixed s.durable.marks s.durable.log) ++ drop (length (all_by s.durable.fixed s.durable.marks s.durable.log) * 19) o
    → lost_now s t₁ o₁ s.lost.pool ≡ (restarted s).lent
unfolding restarted table
restart_made s t o t₁ o₁ (sized, span, last, well, few) et eo pt po =
    let a : List (List ℕ) = all_by s.durable.fixed s.durable.marks s.durable.log in
    let q : a ≡ entering_all s = sym (entering_all_by s) in
    let k : length s.lost.online - length (entering_all s) * 19 ≡ (online_size_of s - length (entering_all s)) * 19 = omega (arith, sized.online) in
    let ht : t₁ ≡ put 2 (evicted_all (frames_of s) (entering_all s) (replicate (length s.lost.tables) 0)) 0 (length (entering_all s)) =
    pt ∙ ap (λ (l : List ℕ). put 2 (evicted_all (frames_of s) a l) 0 (length a)) et ∙ ap (λ (l : List (List ℕ)). put 2 (evicted_all (frames_of s) l (replicate (length s.lost.tables) 0)) 0 (length l)) q in
    let ho : o₁ ≡ joined (entering_all s) ++ replicate ((online_size_of s - length (entering_all s)) * 19) 0 =
    po ∙ ap (λ (l : List ℕ). joined a ++ drop (length a * 19) l) eo ∙ ap (λ (l : List (List ℕ)). joined l ++ drop (length l * 19) (replicate (length s.lost.online) 0)) q
    ∙ ap (λ (l : List ℕ). joined (entering_all s) ++ l) (drop_zeros (length s.lost.online) (length (entering_all s) * 19) ∙ ap (λ (n : ℕ). replicate n 0) k) in
    ap (λ (l : List ℕ). lost_now s l o₁ s.lost.pool) ht
    ∙ ap (λ (l : List ℕ). lost_now s (put 2 (evicted_all (frames_of s) (entering_all s) (replicate (length s.lost.tables) 0)) 0 (length (entering_all s))) l s.lost.pool) ho
