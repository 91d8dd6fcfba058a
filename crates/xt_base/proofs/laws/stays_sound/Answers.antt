use Rattle.xt_base.proofs.FormLemmas.{form_is}
use Rattle.xt_base.proofs.SoundCalls.{sound_call}
use Rattle.xt_base.proofs.SoundJobs.{sound_flush}
use Rattle.xt_base.proofs.SoundSteps.{sound_begin, sound_end, sound_mount, sound_posted}
use Rattle.xt_base.proofs.laws.stays_sound.Goals as goal

pub returns : goal.returns
returns c = record {
  forms = form_is;
  first = sound_mount;
  calls = λ s request answer dropped sound. sound_call dropped request answer s sound;
  posts = λ s kind sound owed. sound_posted kind s sound owed;
  begins = λ s name sound waits ckpt. sound_begin s sound name waits ckpt;
  ends = λ s answers dropped sound. sound_end s sound dropped answers;
  flushes = λ s answers dropped sound. sound_flush dropped answers s sound;
}
