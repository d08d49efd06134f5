-- What a plan for a page says, and what its frames mean.
use Rattle.std.specs.Prelude.{ℕ, ◌≡◌, Bool, true, false, cond, not, ◌&&◌, List, eqb, Option, Some, None, MatchOption}
use Rattle.number.specs.declared.FrameNo.{FrameNo}
use Rattle.rules.specs.Lent.{in_frame, frame_of, clean_in, page_in}
use Rattle.compact.specs.declared.Plan.{Plan}

-- there is a frame exactly if b, and it is this one
abbrev pub Named : Bool → ℕ → Option FrameNo → Type 0
Named b k r = MatchOption r (b ≡ false) (λ f. (b ≡ true) × (f.0 ≡ k))

-- the plan for a page with so many committed records of so many in all, with this entry and the greatest committed number
pub record Planned (n all e most : ℕ) (r : Plan) : Type 0 where
  pub from : Named (eqb n all && in_frame e) (frame_of e) r.from
  pub frees : Named (not (eqb n all && in_frame e) && in_frame e) (frame_of e) r.frees
  pub entry : r.entry ≡ cond (eqb n all && in_frame e) (clean_in (frame_of e)) (cond (eqb n all) 0 1)
  pub stamp : r.stamp ≡ most
  pub reads : r.reads ≡ cond (eqb n all && in_frame e) 0 1

-- the bytes of a page: its frame's, or else these
abbrev pub page_from : Option FrameNo → ℕ → List ℕ → List ℕ → List ℕ
page_from (Some f) size pool x = page_in size f.0 pool
page_from None size pool x = x
