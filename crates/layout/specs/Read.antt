-- The parameters as they were read.
use Rattle.std.specs.Prelude.{ℕ, ◌≡◌, List}
use Rattle.rules.specs.declared.Params.{Params}
use Rattle.rules.specs.Lent.{size_in, pages_in, frames_in, online_size_in, log_size_in}

-- these are the numbers that `fixed` holds
pub record ParamsRead (fixed : List ℕ) (g : Params) : Type 0 where
  pub size : g.size ≡ size_in fixed
  pub pages : g.pages ≡ pages_in fixed
  pub frames : g.frames ≡ frames_in fixed
  pub online : g.online ≡ online_size_in fixed
  pub log : g.log ≡ log_size_in fixed
