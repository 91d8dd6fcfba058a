use Rattle.std.proofs.Common.{arith, rules, Some, subst, sym}
use Rattle.std.proofs.lemmas.List.Elements.{All-head, All-nil, All-same, All-tail}
use Rattle.std.specs.Vec.Iter.{into_iter_steps}
use Rattle.xt_volumes.proofs.VolumeLemmas.{All-placed}
use Rattle.xt_volumes.specs.Volumes.{HasSizes, IsNamed}
use Rattle.xt_volumes.proofs.volume.volumes.Goals as goal

-- all are to come, and none was put in
pub loop-volume-init : goal.loop-volume-init
loop-volume-init c =
    let words = c.args.words.now in
    let gives = c.into_iter-volume-iterator.ensures.into_iter_gives in
    let none = c.new-volumes.ensures.items in
    record {
      can_next = tt;
      is_finite = tt;
      coming = All-same (IsNamed words) _ _ gives.0 c.in_ok-volume-items.ensures.named;
      count = omega (arith, c.new-volumes.ensures.len, gives.1, c.in_ok-volume-items.ensures.count);
      named = All-same (IsNamed words) _ _ none (All-nil (IsNamed words));
      sizes = All-same HasSizes _ _ none (All-nil HasSizes);
      ascending = search rules;
    }

-- the next is put in at its place
pub loop-volume-preserved : goal.loop-volume-preserved
loop-volume-preserved c =
    let words = c.args.words.now in
    let step : into_iter_steps c.loop-volume.volume-iterator (Some c.in-Some.volume) c.next.new.self = subst (λ r. into_iter_steps c.loop-volume.volume-iterator r c.next.new.self) c.in-Some.is c.next.ensures.steps in
    let coming = All-same (IsNamed words) _ _ (sym step.0) c.loop-volume.invariant.coming in
    let added = c.in_ok-add.ensures.added in
    record {
      can_next = tt;
      is_finite = tt;
      coming = All-tail (IsNamed words) _ _ coming;
      count = omega (arith, c.in_ok-add.ensures.len, step.1, c.loop-volume.invariant.count);
      named = All-same (IsNamed words) _ _ added (All-placed (IsNamed words) _ _ _ c.loop-volume.invariant.named (All-head (IsNamed words) _ _ coming));
      sizes = All-same HasSizes _ _ added (All-placed HasSizes _ _ _ c.loop-volume.invariant.sizes c.in_ok-add.ensures.sizes);
      ascending = c.in_ok-add.ensures.ascending;
    }

-- or it is refused beside those that were put in
pub returns-in_err-add-clause-refused : goal.returns-in_err-add-clause-refused
returns-in_err-add-clause-refused c = λ slot errno is.
    let words = c.args.words.now in
    let step : into_iter_steps c.loop-volume.volume-iterator (Some c.in-Some.volume) c.next.new.self = subst (λ r. into_iter_steps c.loop-volume.volume-iterator r c.next.new.self) c.in-Some.is c.next.ensures.steps in
    let coming = All-same (IsNamed words) _ _ (sym step.0) c.loop-volume.invariant.coming in
    let told = c.add.ensures.refused slot errno (search (rules, is)) in
    (c.in-Some.volume, c.loop-volume.volumes.items, sym told.0, All-head (IsNamed words) _ _ coming, c.loop-volume.invariant.named, told.1)
