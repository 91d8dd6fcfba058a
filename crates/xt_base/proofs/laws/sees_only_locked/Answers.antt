use Rattle.xt_base.proofs.AlikeLemmas.{alike_at}
use Rattle.xt_base.proofs.StillLemmas.{still_alike}
use Rattle.xt_base.proofs.StillCalls.{still_begin, still_call, still_end, still_flush, still_posted}
use Rattle.xt_base.specs.Calls.{alone_with}
use Rattle.xt_base.specs.Jobs.{begin, end, flush, posted}
use Rattle.xt_base.proofs.laws.sees_only_locked.Goals as goal

pub returns : goal.returns
returns c = record {
  locked = alike_at;
  calls = λ t b s request answer dropped sound there own other. still_alike t b s (alone_with dropped request answer s).state (still_call t b s sound own request answer dropped there other);
  posts = λ t b s kind sound own. still_alike t b s (posted kind s) (still_posted t b s sound own kind);
  begins = λ t b s sound own. still_alike t b s (begin s).state (still_begin t b s sound own);
  ends = λ t b s answers dropped sound own. still_alike t b s (end dropped answers s).state (still_end t b s sound own answers dropped);
  flushes = λ t b s answers dropped sound own. still_alike t b s (flush dropped answers s).state (still_flush t b s sound own answers dropped);
}
