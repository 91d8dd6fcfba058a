use Rattle.std.proofs.Common.{rules, arith, length, drop, ◌-◌}
use Rattle.std.proofs.lemmas.List.{length-drop, take_all}
use Rattle.xt_ckpt.proofs.Places.{put_some}
use Rattle.xt_ckpt.proofs.place.put_from.Goals as goal

pub returns-then-count-left : goal.returns-then-count-left
returns-then-count-left c =
    let bytes = c.args.bytes.now in
    let left = take_all (length bytes - c.args.done) (drop c.args.done bytes) (omega (arith, length-drop c.args.done bytes)) in
    put_some c.args.out.now.items c.extend_from_slice.new.self.items bytes _ c.args.done c.min-count.result c.args.limit left (search rules) c.if-count-left.true (search rules) c.requires.room c.requires.done
