-- The text of a checkpoint, chunk by chunk and item by item.
use Rattle.std.proofs.Common.{◌≡◌, ◌∙◌, ◌+◌, ◌*◌, ◌<◌, ℕ, suc, List, [], ◌∷◌, ◌++◌, Option, Some, None, sym, ap, subst, refl, length, map, take, filter, IfSome}
use Rattle.std.specs.Prelude.{All, flat_map, get_or, not}
use Rattle.std.proofs.lemmas.List.{get_or-map, length-map, map-append, take_more}
use Rattle.std.proofs.lemmas.List.Elements.{All-cons, All-nil, All-push}
use Rattle.xt_base.specs.Form.{Form}
use Rattle.xt_base.specs.Jobs.{landed, landed_items, waits_on}
use Rattle.xt_base.specs.Settle.{settled}
use Rattle.xt_base.specs.Sized.{IsWithin}
use Rattle.xt_base.specs.Sound.{Each, IsRising, RisesFrom, AllBelow, IsBetween, IsSound, RisesFromKeys as NumbersRise}
use Rattle.xt_base.specs.State.{Flight, Items, Jobs, State}
use Rattle.xt_base.specs.Text.{chunk_bytes, content_at, item_text, text_in, text_of}
use Rattle.xt_base.specs.declared.steps.Owner.{Owner}
use Rattle.xt_base.proofs.MapLemmas.{some_same}
use Rattle.xt_ckpt.specs.Entries.{EntriesRise, IsWhole, block_at, chunks_at, content_at as bytes_at, entry_bytes}
use Rattle.xt_ckpt.specs.Grammar.{Entry}
use Rattle.xt_items.specs.Lists.{flight_number}
use Rattle.xt_mount.specs.Accounts.{AccountsState, landed_in}
use Rattle.xt_mount.specs.Texts.{entries_of, entry_of}
use Rattle.xt_vectors.specs.Vectors.{Vector, vector_of, vectors_of}

landed_by : (s : State) (o : Option Flight) (number : ℕ) (owners : List (ℕ × Owner)) (accounts : AccountsState) (jobs : Jobs) (n : State) → flight_number o ≡ Some number
    → owners ≡ filter (λ e. not (waits_on number e.1)) s.owners → IfSome o (λ f. accounts ≡ landed_in f (record { log_bytes = s.log_bytes; form = s.form; transactions = s.transactions; items = s.items; frames = s.frames; shut = s.shut })) → jobs ≡ record s.jobs { ckpt = None }
    → n ≡ settled [] (record s { owners = owners; log_bytes = accounts.log_bytes; form = accounts.form; transactions = accounts.transactions; items = accounts.items; frames = accounts.frames; shut = accounts.shut; jobs = jobs }) → IfSome o (λ f. n ≡ landed [] f s)
landed_by s None number owners accounts jobs n flying freed listed done is = tt
landed_by s (Some f) number owners accounts jobs n flying freed listed done is =
    is ∙ ap (λ x. settled [] (record s { owners = x; log_bytes = accounts.log_bytes; form = accounts.form; transactions = accounts.transactions; items = accounts.items; frames = accounts.frames; shut = accounts.shut; jobs = jobs })) (freed ∙ ap (λ k. filter (λ e. not (waits_on k e.1)) s.owners) (sym (some_same f.number number flying)))
    ∙ ap (λ (x : AccountsState). settled [] (record s { owners = filter (λ e. not (waits_on f.number e.1)) s.owners; log_bytes = x.log_bytes; form = x.form; transactions = x.transactions; items = x.items; frames = x.frames; shut = x.shut; jobs = jobs })) listed
    ∙ ap (λ x. settled [] (record s { owners = filter (λ e. not (waits_on f.number e.1)) s.owners; items = landed_items s.form.ends f s.items; jobs = x })) done

-- the flight of this number has landed
pub landed_is : (s : State) (number : ℕ) (owners : List (ℕ × Owner)) (accounts : AccountsState) (jobs : Jobs) (n : State) → flight_number s.items.flight ≡ Some number
    → owners ≡ filter (λ e. not (waits_on number e.1)) s.owners → IfSome s.items.flight (λ f. accounts ≡ landed_in f (record { log_bytes = s.log_bytes; form = s.form; transactions = s.transactions; items = s.items; frames = s.frames; shut = s.shut })) → jobs ≡ record s.jobs { ckpt = None }
    → n ≡ settled [] (record s { owners = owners; log_bytes = accounts.log_bytes; form = accounts.form; transactions = accounts.transactions; items = accounts.items; frames = accounts.frames; shut = accounts.shut; jobs = jobs }) → IfSome s.items.flight (λ f. n ≡ landed [] f s)
landed_is s number owners accounts jobs n flying freed listed done is = landed_by s s.items.flight number owners accounts jobs n flying freed listed done is

-- what a landing finds
below_by : (l : Items) (o : Option Flight) → IsBetween o l → IfSome o (λ f. AllBelow f.number l.landed)
below_by l None between = tt
below_by l (Some f) between = between.1

pub landed_below : (s : State) → IsSound s → IfSome s.items.flight (λ f. AllBelow f.number s.items.landed)
landed_below s sound = below_by s.items s.items.flight sound.parts.flying

-- ---- the log vector at a place
module _ (vs : List (ℕ × Vector)) (i : ℕ) (v : ℕ × Vector) (lt : i < length vs) where
  entry_lt : i < length (entries_of vs)
  entry_lt = subst (λ n. i < n) (sym (length-map vs entry_of)) lt

  entry_here : get_or (entries_of vs) i (entry_of v) ≡ entry_of (get_or vs i v)
  entry_here = get_or-map entry_of vs i v (entry_of v) lt

  pub block_is : block_at (entries_of vs) i ≡ (get_or vs i v).0
  block_is = get_or-map (λ (x : Entry). x.block) (entries_of vs) i (entry_of v) 0 entry_lt ∙ ap (λ (x : Entry). x.block) entry_here

  pub chunks_are : chunks_at (entries_of vs) i ≡ (get_or vs i v).1.chunks
  chunks_are = get_or-map (λ (x : Entry). x.chunks) (entries_of vs) i (entry_of v) [] entry_lt ∙ ap (λ (x : Entry). x.chunks) entry_here

  pub bytes_are : bytes_at (entries_of vs) i ≡ (get_or vs i v).1.bytes
  bytes_are = get_or-map (λ (x : Entry). x.content) (entries_of vs) i (entry_of v) [] entry_lt ∙ ap (λ (x : Entry). x.content) entry_here

  -- its bytes are as many as its chunks have, as those of the ones before
  pub whole_more : (bytes : List ℕ) → v ≡ get_or vs i v → bytes ≡ v.1.bytes → length bytes ≡ 128 * length v.1.chunks → All IsWhole (entries_of (take i vs)) → All IsWhole (entries_of (take (i + 1) vs))
  whole_more bytes is same form before =
      let cut : take (i + 1) vs ≡ take i vs ++ v ∷ [] = take_more vs i v lt ∙ ap (λ x. take i vs ++ x ∷ []) (sym is) in
      subst (All IsWhole) (sym (ap entries_of cut ∙ map-append entry_of (take i vs) (v ∷ []))) (All-push IsWhole (entries_of (take i vs)) (entry_of v) before (ap length (sym same) ∙ form))

-- ---- what a checkpoint says by the log vectors of a commit list
-- what holds of the block and the chunks of each of its items, whatever their bytes
all_chunks : (P : List ℕ → Type 0) (size : ℕ) (m es : List (ℕ × List ℕ)) → Each (λ e. P e.1) es → All (λ (x : Entry). P x.chunks) (entries_of (vectors_of size m es))
all_chunks P size m [] all = All-nil (λ (x : Entry). P x.chunks)
all_chunks P size m (e ∷ es) all = All-cons (λ (x : Entry). P x.chunks) (entry_of (vector_of size m e)) (entries_of (vectors_of size m es)) all.0 (all_chunks P size m es all.1)

numbers_rise : (n size : ℕ) (m es : List (ℕ × List ℕ)) → RisesFrom n es → NumbersRise n (map (λ (x : Entry). x.block) (entries_of (vectors_of size m es)))
numbers_rise n size m [] rises = tt
numbers_rise n size m (e ∷ es) rises = (rises.0, numbers_rise (suc e.0) size m es rises.1)

-- their bytes are the text of the items
bytes_of_vectors : (size : ℕ) (m es : List (ℕ × List ℕ)) → flat_map entry_bytes (entries_of (vectors_of size m es)) ≡ flat_map (λ (e : ℕ × List ℕ). item_text e.0 e.1 (chunk_bytes (content_at size e.0 m) e.1)) es
bytes_of_vectors size m [] = refl
bytes_of_vectors size m (e ∷ es) = ap (λ xs. item_text e.0 e.1 (chunk_bytes (content_at size e.0 m) e.1) ++ xs) (bytes_of_vectors size m es)

module _ (size : ℕ) (m es : List (ℕ × List ℕ)) (vs : List (ℕ × Vector)) (are : vs ≡ vectors_of size m es) where
  -- there is one for each item
  pub vector_count : length (entries_of vs) ≡ length es
  vector_count = length-map vs entry_of ∙ ap length are ∙ length-map es (vector_of size m)

  -- their blocks rise
  pub vectors_rise : IsRising es → EntriesRise (entries_of vs)
  vectors_rise rises = subst (λ xs. EntriesRise (entries_of xs)) (sym are) (numbers_rise 0 size m es rises)

  -- they are of chunks that the blocks have
  pub vectors_within : Each (λ e. IsWithin size e.1) es → All (λ (x : Entry). IsWithin size x.chunks) (entries_of vs)
  vectors_within all = subst (λ xs. All (λ (x : Entry). IsWithin size x.chunks) (entries_of xs)) (sym are) (all_chunks (IsWithin size) size m es all)

  -- the text of a checkpoint of them is that of the items
  pub vectors_text : (form : Form) (number : ℕ) → form.size ≡ size → text_in form number (length (entries_of vs)) (flat_map entry_bytes (entries_of vs)) ≡ text_of form number es m
  vectors_text form number of =
      ap (λ n. text_in form number n (flat_map entry_bytes (entries_of vs))) vector_count
      ∙ ap (λ xs. text_in form number (length es) (flat_map entry_bytes (entries_of xs))) are
      ∙ ap (text_in form number (length es)) (bytes_of_vectors size m es)
      ∙ ap (λ n. text_in form number (length es) (flat_map (λ (e : ℕ × List ℕ). item_text e.0 e.1 (chunk_bytes (content_at n e.0 m) e.1)) es)) (sym of)
