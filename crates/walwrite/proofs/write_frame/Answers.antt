use native.Mathlib.Omega.{arith}
use Rattle.walwrite.proofs.Laws.{frame_image}
use Rattle.walwrite.proofs.write_frame.Goals as goal

pub returns : goal.returns
returns c = frame_image _ _ _ _ _ c.args.f.now _ _ _ (omega (arith, c.requires.0)) c.put_image.ensures c.write_fields.ensures
