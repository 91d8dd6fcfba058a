use Rattle.xt_base.proofs.SizedSteps.{sized_begin, sized_call, sized_end, sized_flush, sized_mount, sized_posted}
use Rattle.xt_base.proofs.laws.stays_sized.Goals as goal

pub returns : goal.returns
returns c = record {
  first = sized_mount;
  calls = λ s request answer dropped form has sized. sized_call dropped request answer s form has sized;
  posts = λ s kind sized. sized_posted kind s sized;
  begins = sized_begin;
  ends = λ s answers dropped sized. sized_end dropped answers s sized;
  flushes = λ s answers dropped sized. sized_flush dropped answers s sized;
}
