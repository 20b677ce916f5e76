use Rattle.store.proofs.Lasts.{put_last_is}
use Rattle.store.proofs.splice.put_last.Goals as goal

pub returns : goal.returns
returns g c =
    put_last_is c.args.blank c.args.xs.now c.args.new.now c.wipe.new.xs c.shift.new.xs c.args.gone.start c.args.gone.end c.args.end c.max.result c.requires.forward c.requires.behind c.requires.there c.requires.fits
    c.shift.ensures c.max.ensures c.wipe.ensures c.copy_from_slice.ensures.after
