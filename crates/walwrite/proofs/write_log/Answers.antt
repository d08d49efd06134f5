use Rattle.walwrite.specs.Image.{image_in}
use Rattle.walwrite.proofs.Laws.{log_as, head_size}
use Rattle.walwrite.proofs.write_log.Goals as goal

pub write_frames-requires : goal.write_frames-requires
write_frames-requires c = let h = c.write_header-h in (rw h.auto.s c.requires.0, head_size _ _ _ _ _ _ h.ensures.1, c.requires.1)

pub returns : goal.returns
returns c =
    let p = c.args.pages.now in
    log_as _ _ _ _ _ p.count (image_in p.size p.stored.now p.online.now) c.args.list.now c.args.target.now c.write_header-h.new.s _ _ c.write_header-h.ensures c.write_frames.ensures
