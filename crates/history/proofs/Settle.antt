-- From what the bytes say as lists to the invariant: each step shows the two apart and puts them together here.
use Prim.Native.Nat.{ℕ}
use mathlib.Core.List.{List}
use Rattle.rules.specs.Lent.{Lent, frames_of}
use Rattle.readback.proofs.Seen.{Reads, over, whole}
use Rattle.history.specs.Past.{Past}
use Rattle.history.proofs.Right.{Ground, PastRight, DurableRight, LostRight, Right, open_of}

module _ {s : Lent} {order lives entries : List ℕ} {online : List (List ℕ)} (e : Reads s order lives entries online) where
  pub settle : {g : Ground} {done : List (List ℕ)} {h : Past} → PastRight g done h → DurableRight g done s.durable → LostRight g done (open_of h) h.live (frames_of s) s.durable.marks s.durable.stored s.lost.pool order lives entries online → Right g done h s
  settle {g} {done} {h} p d l =
      record {
        past = p;
        durable = d;
        whole = whole e;
        lost = over e (λ (o ls es : List ℕ) (on : List (List ℕ)). LostRight g done (open_of h) h.live (frames_of s) s.durable.marks s.durable.stored s.lost.pool o ls es on) l;
      }
