-- The theorem: written, then the pages changed in any way, then played back.
use Prim.Native.Nat.{ℕ, suc, ◌+◌, ◌*◌, ◌/◌, ◌%◌, ◌^◌, ◌≤◌, ◌<◌}
use native.Mathlib.Omega.{arith}
use native.Mathlib.Nat.{le-div_iff_mul-le}
use mathlib.Core.Path.{◌≡◌, refl, sym, ap, ◌∙◌, subst}
use mathlib.Core.Bool.{true, false, not}
use mathlib.Core.List.{List, [], ◌∷◌, ◌++◌, append_assoc, map}
use lib.ListN.{length, drop}
use lib.Seq.{drop_at}
use lib.Dec.{ltb}
use borrow.Author.Tests.{ne_eqb, le-ltb, ltb-false}
use Rattle.std.specs.Prelude.{None, Result, Ok, Err}
use Rattle.journal.specs.declared.Refusal.{Refusal}
use Rattle.journal.specs.declared.Run.{Run}
use Rattle.journal.specs.declared.Reply.{Reply}
use Rattle.journal.specs.Layout.{is_size, whole_pages, is_header, nonce_of, Saved, records, header_bytes, records_bytes}
use Rattle.journal.specs.Playing.{body_of, counted, run, run_of, to_restore, outside, restored}
use Rattle.journal.specs.Writing.{any_past, saved_page, journal_length, journal_bytes}
use Rattle.journal.specs.Calls.{Outcome, settled, judge_play, play_call, judge_write, write_call, Told}
use Rattle.journal.proofs.Tells.{passed_by, code_some}
use Rattle.journal.proofs.Writes.{neither, length_page, page_small, length_header, Fit, fit}
use Rattle.journaltrip.specs.Trip.{BroughtBack}
use Rattle.journaltrip.proofs.Reading.{reads_count, reads_nonce, reads_sector, reads_header, Fine, reads_run, reads_records}
use Rattle.journaltrip.proofs.Pages.{all_back}

-- a call that was done
done_call : (v : Result (Unit {0}) Refusal) (l : List ℕ) (o : Outcome) → (settled v l o).reply.code ≡ 0 → v ≡ Ok tt
done_call (Ok x) l o h = refl
done_call (Err r) l o h = absurd (code_some r h)

length_saved : (size : ℕ) (pages list : List ℕ) → length (map (saved_page size pages) list) ≡ length list
length_saved size pages [] = refl
length_saved size pages (p ∷ ps) = ap suc (length_saved size pages ps)

-- pages that are lent: their records can be read back, and none is outside
fine : (size : ℕ) (pages list : List ℕ) → 0 < size → length pages / size ≤ 1024 → any_past (length pages) size list ≡ false → Fine size (map (saved_page size pages) list)
unfolding any_past
fine size pages [] s k a = Fine.none
fine size pages (p ∷ ps) s k a =
    let n = neither (ltb (length pages) ((p + 1) * size)) (any_past (length pages) size ps) a in
    let there : (p + 1) * size ≤ length pages = ltb-false (length pages) ((p + 1) * size) n.0 in
    let small : p < 1024 = page_small p size (length pages) s k there in
    Fine.more {r = saved_page size pages p} (length_page size p pages there) (omega arith) (fine size pages ps s k n.1)

inside : (size : ℕ) (pages list : List ℕ) → 0 < size → any_past (length pages) size list ≡ false → outside (length pages / size) (map (saved_page size pages) list) ≡ false
unfolding any_past outside
inside size pages [] s a = refl
inside size pages (p ∷ ps) s a =
    let n = neither (ltb (length pages) ((p + 1) * size)) (any_past (length pages) size ps) a in
    let there : (p + 1) * size ≤ length pages = ltb-false (length pages) ((p + 1) * size) n.0 in
    let k : p + 1 ≤ length pages / size = (le-div_iff_mul-le {k = size} {x = p + 1} {y = length pages} s).1 there in
    rw (ne_eqb (p + 1) 0 (λ z. omega arith), le-ltb (length pages / size) (p + 1) k) (inside size pages ps s n.1)

-- the journal as it was written, and all that playing finds in it
module _ (pages list rest : List ℕ) (size nonce sector room : ℕ) (fits : Fit list (length pages) room size sector) (u : nonce < 4294967296) where
  saved : List Saved
  saved = map (saved_page size pages) list

  body : List ℕ
  unfolding saved
  body = records_bytes nonce size saved ++ rest

  file : List ℕ
  unfolding body
  file = header_bytes (length list) nonce (length pages / size) sector size ++ body

  few : length list < 4294967296
  few = let f = fits.few in omega arith

  headed : is_header size file ≡ true
  unfolding file
  headed =
      let l = fits.low in
      let h = fits.high in
      let m = fits.most in
      reads_header (length list) nonce (length pages / size) sector size body (omega arith) fits.sectored (omega arith) (omega arith)

  body_is : body_of file ≡ body
  unfolding file
  body_is =
      let l = fits.low in
      let h = fits.high in
      ap (λ (n : ℕ). drop n file) (reads_sector (length list) nonce (length pages / size) sector size body (omega arith))
      ∙ drop_at (header_bytes (length list) nonce (length pages / size) sector size) body sector (length_header (length list) nonce (length pages / size) sector size (omega arith))

  count_is : counted size file ≡ length list
  unfolding counted file
  count_is =
      let f = fits.few in
      rw (reads_count (length list) nonce (length pages / size) sector size body few, ne_eqb (length list) 4294967295 (λ z. omega arith))

  nonce_is : nonce_of file ≡ nonce
  unfolding file
  nonce_is = reads_nonce (length list) nonce (length pages / size) sector size body u

  good : Fine size saved
  unfolding saved
  good = let l = fits.least in fine size pages list (omega arith) fits.pages fits.lent_all

  as_many : length saved ≡ length list
  unfolding saved
  as_many = length_saved size pages list

  run_is : run_of size file ≡ record { count = length list; ended = None }
  unfolding run_of body
  run_is =
      ap (λ (n : ℕ). run n (nonce_of file) size (body_of file)) count_is
      ∙ ap (λ (n : ℕ). run (length list) n size (body_of file)) nonce_is
      ∙ ap (λ (l : List ℕ). run (length list) nonce size l) body_is
      ∙ ap (λ (n : ℕ). run n nonce size body) (sym as_many)
      ∙ reads_run nonce size saved rest good
      ∙ ap (λ (n : ℕ). record { count = n; ended = None }) as_many

  saved_is : to_restore size file ≡ saved
  unfolding to_restore body
  saved_is =
      ap (λ (r : Run). records r.count size (body_of file)) run_is
      ∙ ap (λ (l : List ℕ). records (length list) size l) body_is
      ∙ ap (λ (n : ℕ). records n size body) (sym as_many)
      ∙ reads_records nonce size saved rest good

  judged : (now : List ℕ) → length now ≡ length pages → judge_play file (length now) size ≡ Ok (run_of size file)
  unfolding judge_play saved
  judged now e =
      let l = fits.least in
      let a : not (is_size size) ≡ false = rw fits.sized refl in
      let b : not (whole_pages size (length now)) ≡ false = rw (e, fits.whole) refl in
      let c : not (is_header size file) ≡ false = rw headed refl in
      let d : outside (length now / size) (to_restore size file) ≡ false = rw (e, saved_is) (inside size pages list (omega arith) fits.lent_all) in
      sym (passed_by _ _ _ _ a (passed_by _ _ _ _ b (passed_by _ _ _ _ c (passed_by _ _ _ _ d refl))))

  played : (now : List ℕ) → length now ≡ length pages
      → play_call file now size ≡ record { reply = record { code = 0; ended = 0; records = length list }; bytes = restored size (map (saved_page size pages) list) now }
  unfolding play_call saved
  played now e =
      let f = few in
      let m : length list % 2 ^ 32 ≡ length list = omega arith in
      rw (judged now e, run_is, saved_is, m) refl

-- a journal that was written, whatever stood in the target, brings the listed pages back
module _ (pages list target now : List ℕ) (size nonce sector : ℕ) (u : nonce < 2 ^ 32) (same : length now ≡ length pages) (done : (write_call pages list target size nonce sector).reply.code ≡ 0) where
  goes : judge_write list (length pages) (length target) size sector ≡ Ok tt
  unfolding write_call
  goes = done_call (judge_write list (length pages) (length target) size sector) target _ done

  rest : List ℕ
  rest = drop (journal_length sector size (length list)) target

  fits : Fit list (length pages) (length target) size sector
  fits = fit list (length pages) (length target) size sector goes

  written : (write_call pages list target size nonce sector).bytes ≡ file pages list rest size nonce sector (length target) fits u
  unfolding write_call journal_bytes file body saved rest
  written =
      rw goes
      (append_assoc (header_bytes (length list) nonce (length pages / size) sector size) (records_bytes nonce size (map (saved_page size pages) list)) (drop (journal_length sector size (length list)) target))

  outcome : play_call (write_call pages list target size nonce sector).bytes now size
      ≡ record { reply = record { code = 0; ended = 0; records = length list }; bytes = restored size (map (saved_page size pages) list) now }
  outcome = ap (λ (j : List ℕ). play_call j now size) written ∙ played pages list rest size nonce sector (length target) fits u now same

  -- "written and played back, it restores them exactly"
  pub round_trip : ((play_call (write_call pages list target size nonce sector).bytes now size).reply ≡ record { code = 0; ended = 0; records = length list })
      × BroughtBack size list pages now (play_call (write_call pages list target size nonce sector).bytes now size).bytes
  round_trip = (
    ap (λ (o : Outcome). o.reply) outcome,
    subst (λ (l : List ℕ). BroughtBack size list pages now l) (sym (ap (λ (o : Outcome). o.bytes) outcome)) (all_back size pages list now same fits.lent_all),
  )

-- the same of what the two exported functions tell and leave
pub doors_trip : (pages list target now : List ℕ) (size nonce sector : ℕ) (w r : Reply) (j after : List ℕ) → nonce < 2 ^ 32 → length now ≡ length pages
    → Told (write_call pages list target size nonce sector) w j → w.code ≡ 0 → Told (play_call j now size) r after
    → (r ≡ record { code = 0; ended = 0; records = length list }) × BroughtBack size list pages now after
doors_trip pages list target now size nonce sector w r j after u same tw z tr =
    let done : (write_call pages list target size nonce sector).reply.code ≡ 0 = sym (ap (λ (x : Reply). x.code) tw.reply) ∙ z in
    let t = round_trip pages list target now size nonce sector u same done in
    let e : play_call j now size ≡ play_call (write_call pages list target size nonce sector).bytes now size = ap (λ (l : List ℕ). play_call l now size) tw.bytes in (
      tr.reply ∙ ap (λ (o : Outcome). o.reply) e ∙ t.0,
      subst (λ (l : List ℕ). BroughtBack size list pages now l) (sym (tr.bytes ∙ ap (λ (o : Outcome). o.bytes) e)) t.1,
    )
