-- What inner functions ask of the lent tables: less than soundness, enough to be safe, and kept by every step. Soundness gives it (crate `sound`).
use Rattle.std.specs.Prelude.{ℕ, ◌*◌, ◌/◌, ◌≤◌, ◌≡◌, Bool, true, List, length, leb, ltb}
use Rattle.record.specs.Record.{online_width, log_width, page_of}
use Rattle.rules.specs.declared.Params.{Params}
use Rattle.rules.specs.Lent.{tables_length, marks_length, fixed_length, Lent, size_of, pages_of, frames_of, online_size_of, log_size_of, logged_of, count_of, used_of, order_of, entries_of}
use Rattle.rules.specs.Sound.{every}

-- a row's page is a page of the store
abbrev pub page_below : ℕ → List ℕ → Bool
page_below pages r = ltb (page_of r) pages

-- the bounds of parameters that are in their ranges: what products of them stay below
pub record Ranged (g : Params) : Type 0 where
  pub size_least : 512 ≤ g.size
  pub size_most : g.size ≤ 4096
  pub pages_least : 1 ≤ g.pages
  pub pages_most : g.pages ≤ 1024
  pub frames_least : 1 ≤ g.frames
  pub frames_most : g.frames ≤ 64
  pub online_least : 1 ≤ g.online
  pub online_most : g.online ≤ 512
  pub log_least : 1 ≤ g.log
  pub log_most : g.log ≤ 2048

-- the parameters' ranges and the lengths of the areas
pub record Sized (s : Lent) : Type 0 where
  pub fixed : length s.durable.fixed ≡ fixed_length
  pub size_least : 512 ≤ size_of s
  pub size : size_of s ≤ 4096
  pub pages_least : 1 ≤ pages_of s
  pub pages : pages_of s ≤ 1024
  pub frames_least : 1 ≤ frames_of s
  pub frames : frames_of s ≤ 64
  pub online_size : online_size_of s ≤ 512
  pub log_size : log_size_of s ≤ 2048
  pub marks : length s.durable.marks ≡ marks_length (pages_of s)
  pub log : length s.durable.log ≡ log_width * log_size_of s
  pub stored : length s.durable.stored ≡ size_of s * pages_of s
  pub tables : length s.lost.tables ≡ tables_length (frames_of s) (pages_of s)
  pub online : length s.lost.online ≡ online_width * online_size_of s
  pub pool : length s.lost.pool ≡ size_of s * frames_of s

-- with counts within sizes, entries and order that name frames
pub record Shaped (s : Lent) : Type 0 where
  pub sized : Sized s
  pub logged : logged_of s ≤ log_size_of s
  pub count : count_of s ≤ online_size_of s
  pub used : used_of s ≤ frames_of s
  pub entries : every (λ (e : ℕ). leb (e / 2) (frames_of s)) (entries_of s) ≡ true
  pub order : every (λ (f : ℕ). ltb f (frames_of s)) (order_of s) ≡ true
