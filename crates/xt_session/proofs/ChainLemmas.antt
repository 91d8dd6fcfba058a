-- Lines answered one after another.
use Rattle.std.proofs.Common.{List, Option, [], ap, append-nil, append_assoc, refl, subst, sym, take, ℕ, ◌++◌, ◌∙◌, ◌∷◌}
use Rattle.std.specs.Io.KnownBytes.{Appends}
use Rattle.xt_base.specs.declared.steps.Reply.{Reply}
use Rattle.xt_base.specs.declared.steps.Step.{Step}
use Rattle.xt_session.proofs.StreamLemmas.{appends_more, appends_none}
use Rattle.xt_session.specs.Cut.{ended}
use Rattle.xt_session.specs.Session.{Breaks, Says, Says.more, Says.none, Writes}
use Rattle.xt_session.specs.Turns.{IsPartial, IsWhole}

module _ {C : Type 0} (answers : C → Step → Reply → C → Type 0) where
  -- two chains are one
  pub says_more : (first next last : C) (before after : List (List ℕ)) (text more_text : List ℕ) → Says answers first before text next → Says answers next after more_text last → Says answers first (before ++ after) (text ++ more_text) last
  says_more first next last before after text more_text (none now) then = then
  says_more first next last before after text more_text (more now mid end line reply lines rest one says) then =
      subst (λ t. Says answers now (line ∷ (lines ++ after)) t last) (sym (append_assoc (ended reply) rest more_text)) (more now mid last line reply (lines ++ after) (rest ++ more_text) one (says_more mid end last lines after rest more_text says then))

  -- no line yet
  pub writes_none : (now : C) (had : Option (List ℕ)) → Writes answers [] now now had had
  writes_none now had = record { text = []; says = none now; written = appends_none had }

  -- lines, and then lines
  pub writes_more : (first next last : C) (before after : List (List ℕ)) (a b c : Option (List ℕ)) → Writes answers before first next a b → Writes answers after next last b c → Writes answers (before ++ after) first last a c
  writes_more first next last before after a b c w v = record {
    text = w.text ++ v.text;
    says = says_more first next last before after w.text v.text w.says v.says;
    written = appends_more a b c w.text v.text w.written v.written;
  }

  -- lines, and then lines that were answered up to one
  pub breaks_more : (first next last : C) (before after : List (List ℕ)) (a b c : Option (List ℕ)) → Writes answers before first next a b → Breaks answers after next last b c → Breaks answers (before ++ after) first last a c
  breaks_more first next last before after a b c w v = record {
    before = before ++ v.before;
    line = v.line;
    more = v.more;
    place = ap (λ ls. before ++ ls) v.place ∙ sym (append_assoc before v.before (v.line ∷ v.more));
    text = w.text ++ v.text;
    state = v.state;
    says = says_more first next v.state before v.before w.text v.text w.says v.says;
    reply = v.reply;
    last = v.last;
    count = v.count;
    partial = v.partial;
    written = subst (λ t. Appends a c t) (sym (append_assoc w.text v.text (take v.count (ended v.reply)))) (appends_more a b c w.text (v.text ++ take v.count (ended v.reply)) w.written v.written);
  }

  -- one line
  pub writes_one : (first last : C) (line : List ℕ) (a b : Option (List ℕ)) → IsWhole answers line first last a b → Writes answers (line ∷ []) first last a b
  writes_one first last line a b w = record {
    text = ended w.reply ++ [];
    says = more first last last line w.reply [] [] w.last (none last);
    written = subst (λ t. Appends a b t) (sym (append-nil (ended w.reply))) w.written;
  }

  -- a line whose reply was not written whole, whatever lines come after it
  pub breaks_one : (first last : C) (line : List ℕ) (rest : List (List ℕ)) (a b : Option (List ℕ)) → IsPartial answers line first last a b → Breaks answers (line ∷ rest) first last a b
  breaks_one first last line rest a b w = record {
    before = [];
    line = line;
    more = rest;
    place = refl;
    text = [];
    state = first;
    says = none first;
    reply = w.reply;
    last = w.last;
    count = w.count;
    partial = w.partial;
    written = w.written;
  }
