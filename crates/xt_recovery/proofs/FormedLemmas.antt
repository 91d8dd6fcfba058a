-- Each step of a slot keeps what makes the texts on its log texts of the grammar.
use Rattle.std.proofs.Common.{◌≡◌, ◌∙◌, ◌^◌, ◌∷◌, Bool, List, None, Option, Some, [], ap, arith, false, inl, inr, length, refl, subst, sym, true, ℕ}
use Rattle.std.proofs.lemmas.Bool.{and_parts, false≢true, ltb-false, not-true, or_parts}
use Rattle.std.specs.Prelude.{flat_map, if◌then◌else◌, is_none, is_some, nat_lt, not, ◌&&◌, ◌<◌, ◌==◌, ◌||◌}
use Rattle.xt_base.proofs.BusyLemmas.{few_committed}
use Rattle.xt_base.proofs.KeyLemmas.{is_in_filter}
use Rattle.xt_base.proofs.MapLemmas.{some_none, some_same}
use Rattle.xt_base.proofs.SoundSteps.{is_none_not, passes_first, second_false}
use Rattle.xt_base.specs.Alone.{alone, call, called, goes_on, is_okay, mount_refusals, mounted_new, on_mount, shown, turn, unless_refused, with_mount}
use Rattle.xt_base.specs.Calls.{Outcome, alone_with, first_of, gives, is_unmount}
use Rattle.xt_base.specs.Jobs.{begin, begun, end, end_of, end_offers, failed, finished, fits_pieces, fits_plan, flight_pieces, flown, flush, flush_offers, flush_plan, flushed, is_begun, is_ckpt, is_ok, is_outstanding, is_owed_as, is_serial, is_waiting, landed, next_pieces, posted, unflushed, waits_on}
use Rattle.xt_base.specs.Owed.{job}
use Rattle.xt_base.specs.Form.{Form, form_of, is_size}
use Rattle.xt_base.specs.Maps.{at, is_in}
use Rattle.xt_base.specs.Order.{mount_is, suits}
use Rattle.xt_base.specs.Sound.{Each, IsSound}
use Rattle.xt_base.specs.State.{Flight, Jobs, Lone, State}
use Rattle.xt_base.specs.Text.{chunk_bytes, item_text, pieces, text_in}
use Rattle.xt_base.specs.declared.names.JobKind.{JobKind}
use Rattle.xt_base.specs.declared.names.JobName.{JobName}
use Rattle.xt_base.specs.declared.sizes.TheConstants.{LEAST_LOG, MOST_BLOCKS, MOST_LOG}
use Rattle.xt_base.specs.declared.steps.Answer.{Answer}
use Rattle.xt_base.specs.declared.steps.Errno.{Errno}
use Rattle.xt_base.specs.declared.steps.Errno.TheVariants.{Busy, Invalid, NoSpace}
use Rattle.xt_base.specs.declared.steps.HomeAnswers.{HomeAnswers}
use Rattle.xt_base.specs.declared.steps.LogAnswers.{LogAnswers}
use Rattle.xt_base.specs.declared.steps.Reply.TheVariants.{Failed, Landed, Nothing, Okay, Refused}
use Rattle.xt_base.specs.declared.steps.Request.{Request}
use Rattle.xt_base.specs.declared.steps.Step.{Step}
use Rattle.xt_base.specs.declared.steps.Step.TheVariants.{Begin, Call, End, Flush, Mount, Peek, Post, Show, Take}
use Rattle.xt_recovery.proofs.LifeLemmas.{MountKeepsInvariant, SlotKeepsInvariant, size_said}
use Rattle.xt_recovery.proofs.FitCalls.{fits_call}
use Rattle.xt_recovery.proofs.Formed.{FitsTexts, IsFlightOfText, IsVolumeForm, IsWellFormed}
use Rattle.xt_recovery.proofs.Invariant.{KeepsInvariant}
use Rattle.xt_recovery.proofs.LogLemmas.{each_from}
use Rattle.xt_recovery.specs.DiskSteps.{IsLogCut, MakesForm, disks_after}
use Rattle.xt_recovery.specs.Disks.{Disks, content_of, disks_at_begin, disks_at_end, disks_begun, disks_failed, disks_landed, flight_of, flight_text, new_disks}
use Rattle.xt_recovery.specs.Log.{CheckpointText, Image, text_bytes, texts_from}
use Rattle.xt_base.specs.Sized.{IsSized, IsWithin}
use Rattle.xt_base.proofs.SizedLemmas.{content_sized}

-- the same of a slot's mount, if there is one
abbrev pub MountFitsTexts : Disks → Option State → Type 0
MountFitsTexts d None = Unit {0}
MountFitsTexts d (Some m) = FitsTexts d m

-- every text on the log is one of the grammar
pub record SlotIsWellFormed (d : Disks) (s : Lone) : Type 0 where
  pub mount : MountFitsTexts d s.mounted
  pub texts : Each (IsWellFormed d.form) d.log

-- other devices, with the same text in flight
fits_disks : (d e : Disks) (m n : State) → e.form ≡ d.form → e.snapshot ≡ d.snapshot → n.blocks ≡ m.blocks → n.owners ≡ m.owners → n.items.cil ≡ m.items.cil → n.items.flight ≡ m.items.flight → FitsTexts d m → FitsTexts e n
fits_disks d e m n form flew blocks owners cil flight h = record {
  said = subst IsVolumeForm (sym form) h.said;
  blocks = subst (λ (x : ℕ). x < 2 ^ 64) (sym blocks) h.blocks;
  owners = λ b there. h.owners b (ap (is_in b) (sym owners) ∙ there);
  items = λ b set there. h.items b set (ap (at b) (sym cil) ∙ there);
  flight = λ f flies. let was = h.flight f (sym flight ∙ flies) in
      let text : (ℕ → List ℕ) → CheckpointText = λ c. record { number = f.number; items = f.items; contents = c } in
      record {
        proper = subst (λ (g : Form). IsWellFormed g (text e.snapshot)) (sym form) (subst (λ (c : ℕ → List ℕ). IsWellFormed d.form (text c)) (sym flew) was.proper);
        pieces = was.pieces ∙ ap (λ (c : ℕ → List ℕ). pieces (text_bytes d.form (text c))) (sym flew) ∙ ap (λ (g : Form). pieces (text_bytes g (text e.snapshot))) (sym form);
      };
}

-- ---- begin
-- the text that a waiting checkpoint has on a live mount
text_proper : (d : Disks) (m : State) → is_some m.jobs.ckpt ≡ true → is_none m.items.flight ≡ true → IsSound m → IsSized m → m.form ≡ d.form → FitsTexts d m → IsWellFormed d.form (record { number = m.items.open_number; items = m.items.cil; contents = content_of m })
text_proper d m out none sound sized form p =
    let ready = sound.ready in
    record {
      said = p.said;
      first = ready.numbered;
      range = omega (arith, ready.bounded);
      some = omega (arith, ready.worth out none);
      few = few_committed m.form.ends m.log_bytes m.owners m.transactions m.items sound.parts;
      rising = sound.parts.cil_rises;
      fit = p.items;
      within = subst (λ (f : Form). Each (λ e. IsWithin f.size e.1) m.items.cil) form sized.within;
      whole = λ b. content_sized m.form.size b m.frames.committed sized.committed ∙ ap (λ (f : Form). f.size) form;
    }

formed_flown : (ps : List (List ℕ)) (d : Disks) (m : State) → m.form ≡ d.form → IsWellFormed d.form (record { number = m.items.open_number; items = m.items.cil; contents = content_of m }) → ps ≡ next_pieces m → FitsTexts d m → FitsTexts (disks_begun m d) (flown ps m)
formed_flown ps d m form text cut p =
    let g : Flight = record { number = m.items.open_number; items = m.items.cil; pieces = ps } in
    let body : List ℕ = flat_map (λ e. item_text e.0 e.1 (chunk_bytes (content_of m e.0) e.1)) m.items.cil in
    let cut_so : ps ≡ pieces (text_bytes d.form (flight_text g (disks_begun m d))) = cut ∙ ap (λ (f : Form). pieces (text_in f m.items.open_number (length m.items.cil) body)) form in
    record {
      said = p.said;
      blocks = p.blocks;
      owners = p.owners;
      items = λ b set there. absurd (cc);
      flight = λ f flies. subst (λ (x : Flight). IsFlightOfText (disks_begun m d) x) (some_same g f flies) (record { proper = text; pieces = cut_so });
    }

begun_if : (shut : Bool) (d : Disks) (m : State) → is_some m.shut ≡ shut → is_some m.jobs.ckpt ≡ true → is_none m.items.flight ≡ true → IsSound m → IsSized m → KeepsInvariant d m → FitsTexts d m
    → FitsTexts (if shut then d else disks_begun m d) (if shut then gives Nothing (finished JobKind.Ckpt m) else begun (next_pieces m) m).state
begun_if true d m is out none sound sized c p = fits_disks d d m (finished JobKind.Ckpt m) refl refl refl refl refl refl p
begun_if false d m is out none sound sized c p = formed_flown (next_pieces m) d m c.form (text_proper d m out none sound sized c.form p) refl p

begun_texts : (shut : Bool) (d : Disks) (m : State) → Each (IsWellFormed d.form) d.log → Each (IsWellFormed (if shut then d else disks_begun m d).form) (if shut then d else disks_begun m d).log
begun_texts true d m all = all
begun_texts false d m all = all

ckpt_out : (kind : JobKind) (n : ℕ) (j : Jobs) → is_ckpt kind ≡ true → is_serial n (job kind j) ≡ true → is_some j.ckpt ≡ true
ckpt_out JobKind.Flush n j bad h = absurd (false≢true bad)
ckpt_out JobKind.Ckpt n j ok h = serial_some n j.ckpt h
  where
    serial_some : (n : ℕ) (o : Option ℕ) → is_serial n o ≡ true → is_some o ≡ true
    serial_some n None h = absurd (false≢true h)
    serial_some n (Some k) h = refl

formed_begin : (name : JobName) (o : Option State) (d : Disks) (s : Lone) → is_ckpt name.kind ≡ true → mount_is (is_waiting name) o ≡ true → MountKeepsInvariant d o → MountFitsTexts d o → Each (IsWellFormed d.form) d.log
    → SlotIsWellFormed (disks_at_begin o d) (on_mount o s (λ m. goes_on (begin m) [] [] s)).slot
formed_begin name None d s ckpt fits holds p all = absurd (false≢true fits)
formed_begin name (Some m) d s ckpt fits holds p all =
    let both = and_parts (is_outstanding name m) (not (is_ckpt name.kind && is_some m.items.flight)) fits in
    let out : is_some m.jobs.ckpt ≡ true = ckpt_out name.kind name.serial m.jobs ckpt (and_parts (name.life == m.life) (is_serial name.serial (job name.kind m.jobs)) both.0).1 in
    let none : is_none m.items.flight ≡ true = is_none_not m.items.flight (second_false (is_ckpt name.kind) (is_some m.items.flight) ckpt (not-true (is_ckpt name.kind && is_some m.items.flight) both.1)) in
    record { mount = begun_if (is_some m.shut) d m refl out none holds.0 holds.2 holds.1 p; texts = begun_texts (is_some m.shut) d m all }

-- ---- end
ended_if : (ok : Bool) (d : Disks) (m : State) (f : Flight) → m.items.flight ≡ Some f → FitsTexts d m → FitsTexts (if ok then disks_landed f d else disks_failed f d) (if ok then gives (Landed f.number) (landed [] f m) else gives (Failed f.number) (failed [] m)).state
ended_if true d m f flies p = record {
  said = p.said;
  blocks = p.blocks;
  owners = λ b there. p.owners b (is_in_filter b (λ e. not (waits_on f.number e.1)) m.owners there);
  items = p.items;
  flight = λ g now. some_none g (IsFlightOfText (disks_landed f d) g) (sym now);
}
ended_if false d m f flies p = record { said = p.said; blocks = p.blocks; owners = p.owners; items = p.items; flight = λ g now. some_none g (IsFlightOfText (disks_failed f d) g) (sym now) }

ended_texts : (ok : Bool) (d : Disks) (f : Flight) → IsWellFormed d.form (flight_text f d) → Each (IsWellFormed d.form) d.log
    → Each (IsWellFormed (if ok then disks_landed f d else disks_failed f d).form) (if ok then disks_landed f d else disks_failed f d).log
ended_texts true d f text all = (text, all)
ended_texts false d f text all = all

ended_by : (answers : LogAnswers) (o : Option Flight) (d : Disks) (m : State) → m.items.flight ≡ o → FitsTexts d m → FitsTexts (disks_at_end answers o d) (end_of [] answers m o).state
ended_by answers None d m is p = p
ended_by answers (Some f) d m is p = ended_if (is_ok answers.sync) d m f is p

ended_all : (answers : LogAnswers) (o : Option Flight) (d : Disks) (m : State) → m.items.flight ≡ o → FitsTexts d m → Each (IsWellFormed d.form) d.log → Each (IsWellFormed (disks_at_end answers o d).form) (disks_at_end answers o d).log
ended_all answers None d m is p all = all
ended_all answers (Some f) d m is p all = ended_texts (is_ok answers.sync) d f (p.flight f is).proper all

formed_end : (answers : LogAnswers) (o : Option State) (d : Disks) (s : Lone) (fits : Bool) → mount_is (λ m. true) o ≡ true → MountFitsTexts d o → Each (IsWellFormed d.form) d.log
    → SlotIsWellFormed (disks_at_end answers (flight_of o) d) (on_mount o s (λ m. goes_on (end [] answers m) (end_offers answers m) [] s)).slot
formed_end answers None d s fits there p all = absurd (false≢true there)
formed_end answers (Some m) d s fits there p all = record { mount = ended_by answers m.items.flight d m refl p; texts = ended_all answers m.items.flight d m refl p all }

pub mount_there : (test : State → Bool) (o : Option State) → mount_is test o ≡ true → mount_is (λ m. true) o ≡ true
mount_there test None h = h
mount_there test (Some m) h = refl

-- ---- flush
flush_if : (none : Bool) (answers : HomeAnswers) (d : Disks) (m : State) (home : Image) → FitsTexts d m → FitsTexts (record d { home = home }) (if none then gives Nothing (unflushed m) else flushed [] (flush_plan m) answers m).state
flush_if true answers d m home p = fits_disks d (record d { home = home }) m _ refl refl refl refl refl refl p
flush_if false answers d m home p = fits_disks d (record d { home = home }) m _ refl refl refl refl refl refl p

formed_flush : (answers : HomeAnswers) (o : Option State) (d : Disks) (s : Lone) (home : Image) → mount_is (λ m. true) o ≡ true → MountFitsTexts d o → Each (IsWellFormed d.form) d.log
    → SlotIsWellFormed (record d { home = home }) (on_mount o s (λ m. goes_on (flush [] answers m) [] (flush_offers answers m) s)).slot
formed_flush answers None d s home there p all = absurd (false≢true there)
formed_flush answers (Some m) d s home there p all = record { mount = flush_if (length (flush_plan m) == 0) answers d m home p; texts = all }

-- ---- the other steps
blocks_small : (log_bytes blocks : ℕ) (size : Option ℕ) (s : Lone) → None ≡ first_of (mount_refusals log_bytes blocks size s) → blocks < 2 ^ 64
blocks_small log_bytes blocks size s passes =
    let wrong : Bool = nat_lt log_bytes LEAST_LOG || nat_lt MOST_LOG log_bytes || (blocks == 0) || nat_lt MOST_BLOCKS blocks || not (is_size size) in
    let one = passes_first (is_some s.mounted) Busy ((wrong, Invalid) ∷ (s.last_life == 4294967295, NoSpace) ∷ []) passes in
    let two = passes_first wrong Invalid ((s.last_life == 4294967295, NoSpace) ∷ []) one.1 in
    let three = or_parts (nat_lt log_bytes LEAST_LOG || nat_lt MOST_LOG log_bytes || (blocks == 0) || nat_lt MOST_BLOCKS blocks) (not (is_size size)) two.0 in
    let most = ltb-false MOST_BLOCKS blocks (or_parts (nat_lt log_bytes LEAST_LOG || nat_lt MOST_LOG log_bytes || (blocks == 0)) (nat_lt MOST_BLOCKS blocks) three.0).1 in
    omega (arith, most)

formed_mounted : (slot log_bytes blocks : ℕ) (size : Option ℕ) (o : Option Errno) (d : Disks) (s : Lone) (home : Image) → (None ≡ o → blocks < 2 ^ 64) → (None ≡ o → (is_size size ≡ true) × (form_of size ≡ d.form)) → SlotIsWellFormed d s
    → SlotIsWellFormed (if is_none o then new_disks d.form home else d) (unless_refused o s (mounted_new slot log_bytes blocks size s)).slot
formed_mounted slot log_bytes blocks size None d s home small makes h = record {
  mount = record { said = (size, (makes refl).0, (makes refl).1); blocks = small refl; owners = λ b there. absurd (false≢true there); items = λ b set there. absurd (cc); flight = λ f now. absurd (cc) };
  texts = tt;
}
formed_mounted slot log_bytes blocks size (Some e) d s home small makes h = h

formed_after : (d : Disks) (o : Outcome) (gone : Bool) → FitsTexts d o.state → MountFitsTexts d (if gone then None else Some o.state)
formed_after d o true h = tt
formed_after d o false h = h

formed_called : (life : ℕ) (request : Request) (answer : Answer) (o : Option State) (d : Disks) (s : Lone) → s.mounted ≡ o → MountKeepsInvariant d o → MountFitsTexts d o → SlotIsWellFormed d s → SlotIsWellFormed d (call [] life request answer s o).slot
formed_called life request answer None d s is holds p h = h
formed_called life request answer (Some m) d s is holds p h = call_if (m.life == life)
  where
    call_if : (mine : Bool) → SlotIsWellFormed d (if mine then called request s (alone_with [] request answer m) else turn (Refused Errno.Stale) s).slot
    call_if true = record { mount = formed_after d (alone_with [] request answer m) (is_unmount request && is_okay (alone_with [] request answer m).reply) (fits_call d [] request answer m holds.0 p); texts = h.texts }
    call_if false = h

formed_post : (name : JobName) (o : Option State) (d : Disks) (s : Lone) → mount_is (λ m. true) o ≡ true → MountFitsTexts d o → Each (IsWellFormed d.form) d.log → SlotIsWellFormed d (on_mount o s (λ m. turn Okay (with_mount (posted name.kind m) s))).slot
formed_post name None d s there p all = absurd (false≢true there)
formed_post name (Some m) d s there p all = record { mount = fits_disks d d m (posted name.kind m) refl refl refl refl refl refl p; texts = all }

formed_shown : (o : Option State) (d : Disks) (s : Lone) → s.mounted ≡ o → SlotIsWellFormed d s → SlotIsWellFormed d (shown o s)
formed_shown None d s is h = h
formed_shown (Some m) d s is h = record { mount = h.mount; texts = h.texts }

-- a step that suits a slot
pub step_proper : (x : Step) (s : Lone) (d : Disks) (home : Image) → suits x s ≡ true → MakesForm x s d.form → SlotKeepsInvariant d s → SlotIsWellFormed d s → SlotIsWellFormed (disks_after x s home d) (alone x s).slot
step_proper (Mount slot log_bytes blocks size) s d home fits form c h = formed_mounted slot log_bytes blocks size (first_of (mount_refusals log_bytes blocks size s)) d s home (blocks_small log_bytes blocks size s) (λ passes. (size_said log_bytes blocks size s passes, form (sym passes))) h
step_proper (Call slot life request answer) s d home fits form c h = formed_called life request answer s.mounted d s refl c.mount h.mount h
step_proper (Post name) s d home fits form c h = formed_post name s.mounted d s (mount_there (is_owed_as name) s.mounted fits) h.mount h.texts
step_proper (Take worker name) s d home fits form c h = h
step_proper (Begin worker name) s d home fits form c h =
    let both = and_parts (is_ckpt name.kind) (mount_is (is_waiting name) s.mounted) fits in
    formed_begin name s.mounted d s both.0 both.1 c.mount h.mount h.texts
step_proper (End worker name answers) s d home fits form c h =
    formed_end answers s.mounted d s true (mount_there (λ m. is_begun name m && fits_pieces answers (length (flight_pieces m.items.flight))) s.mounted fits) h.mount h.texts
step_proper (Flush worker name answers) s d home fits form c h =
    let both = and_parts (not (is_ckpt name.kind)) (mount_is (λ m. is_waiting name m && fits_plan answers (flush_plan m)) s.mounted) fits in
    formed_flush answers s.mounted d s home (mount_there (λ m. is_waiting name m && fits_plan answers (flush_plan m)) s.mounted both.1) h.mount h.texts
step_proper (Show slot) s d home fits form c h = formed_shown s.mounted d s refl h
step_proper (Peek slot) s d home fits form c h = h

-- what a cut leaves of a log are texts of the grammar
pub formed_cut : (o : Option State) (d e : Disks) (s : Lone) → s.mounted ≡ o → IsLogCut o d e → SlotIsWellFormed d s → SlotIsWellFormed e s
formed_cut None d e s is same h = subst (λ (y : Disks). SlotIsWellFormed y s) (sym same) h
formed_cut (Some m) d e s is (inl same) h = subst (λ (y : Disks). SlotIsWellFormed y s) (sym same) h
formed_cut (Some m) d e s is (inr cut) h =
    let c : Disks = record d { log = texts_from cut.0 d.log } in
    let p : FitsTexts d m = subst (MountFitsTexts d) is h.mount in
    subst (λ (y : Disks). SlotIsWellFormed y s) (sym cut.3) (record { mount = subst (MountFitsTexts c) (sym is) (fits_disks d c m m refl refl refl refl refl refl p); texts = each_from (IsWellFormed d.form) cut.0 d.log h.texts })
