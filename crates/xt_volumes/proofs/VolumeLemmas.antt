-- Names of files, and lists of volumes.
use Rattle.std.proofs.Common.{rules, IsSome, IsSomeAnd, [], ◌∷◌, ◌^◌, zero, suc, All, IfSome, MatchOption, None, Option, Some, arith, ap, get_or, length, not, refl, subst, sym, IsTrue, List, Bool, true, false, ℕ, ◌+◌, ◌-◌, ◌∙◌, ◌≡◌, ◌≢◌, ◌<◌, ◌≤◌, ◌⊎◌}
use Rattle.std.proofs.lemmas.Bool.{cases_eq, cases_lt}
use Rattle.std.proofs.lemmas.List.Elements.{All-append, All-cons, All-drop, All-take, Contains-get_or}
use Rattle.std.proofs.lemmas.List.{get_or_at, get_or_default, length-append}
use Rattle.std.proofs.lemmas.List.Edits.{get_or-insert_above, get_or-insert_at, get_or-insert_below, length-insert}
use Rattle.std.proofs.lemmas.List.Sums.{prefix_len_passes, prefix_len_stops}
use Rattle.std.specs.Fmt.{decimal}
use Rattle.std.specs.String.{string_bytes}
use Rattle.std.specs.List.{Contains, insert}
use Rattle.std.proofs.lemmas.Fmt.{decimal_is_IsNumeral}
use Rattle.std.proofs.lemmas.Str.Pattern.{IsSplitOnceResult, split_after, split_parts}
use Rattle.std.specs.Char.{digit_value}
use Rattle.std.specs.Str.Parse.{AllDigits}
use Rattle.std.specs.Prelude.{is_some, nat_lt}
use denote.Bor.{Bor}
use mathlib.Core.Logic.{⊎_elim}
use Rattle.xt_volumes.specs.Volumes.{AreAscending, HasNoColon, HasSizes, IsCut, IsFileName, IsFirstBad, IsRefused, SaysSize, Spells, SpellsNone, last_of, last_part, parted, place_of, spelled_as}
use Rattle.xt_base.specs.declared.sizes.TheConstants.{BLOCK_BYTES, SLOTS}
use Rattle.xt_base.specs.declared.steps.Errno.{Errno}
use Rattle.xt_base.specs.declared.steps.Errno.TheVariants.{Busy, Invalid}
use Rattle.xt_volumes.specs.declared.volume.Volume.{Volume}

-- a text that is not empty is the name of a file just where no colon is found in it
pub no_colon : (found : Bool) (bs : List ℕ) → (found ≡ true → (k : ℕ) × (k < length bs) × (get_or bs k 0 ≡ 58)) × ((k : ℕ) → k < length bs → get_or bs k 0 ≡ 58 → found ≡ true) → 0 < length bs → (IsTrue (not found) → IsFileName bs) × (IsFileName bs → IsTrue (not found))
no_colon true bs finds some = ((λ no. search rules), (λ name. let at = finds.0 refl in let wrong = name.no_colon at.0 at.1 at.2 in search rules))
no_colon false bs finds some = ((λ yes. record { some = some; no_colon = λ k in_name is. let wrong = finds.1 k in_name is in search rules }), (λ name. search rules))

-- what stands behind the place of one that was put in
behind : (vs : List Volume) (x : Volume) (p k : ℕ) (d : Volume) → p ≤ length vs → p < k → get_or (insert vs p x) k d ≡ get_or vs (k - 1) d
behind vs x p k d within over =
    let one : (k - 1) + 1 ≡ k = omega (arith, over) in
    subst (λ m. get_or (insert vs p x) m d ≡ get_or vs (k - 1) d) one (get_or-insert_above vs p x d (k - 1) (omega (arith, over)) within)

-- of volumes that are two others, if these ascend
both : (a b u v : Volume) → a ≡ u → b ≡ v → u.slot < v.slot → a.slot < b.slot
both a b u v is_u is_v rise = subst (λ w. w.slot < b.slot) (sym is_u) (subst (λ w. u.slot < w.slot) (sym is_v) rise)

-- one more at its place among some that ascend: those before it are below it, and the one that stood there is above it
pub ascending_more : (vs : List Volume) (x : Volume) (p : ℕ) → p ≤ length vs → ((k : ℕ) (d : Volume) → k < p → (get_or vs k d).slot < x.slot) → (p < length vs → (d : Volume) → x.slot < (get_or vs p d).slot) → AreAscending vs → AreAscending (insert vs p x)
ascending_more vs x p within below above ascending i j d order inside =
    let more : j < length vs + 1 = subst (λ n. j < n) (length-insert vs p x within) inside in
    let here : (k : ℕ) → k ≡ p → get_or (insert vs p x) k d ≡ x = λ k is. ap (λ m. get_or (insert vs p x) m d) is ∙ get_or-insert_at vs p x d within in
    let before : (k : ℕ) → k < p → get_or (insert vs p x) k d ≡ get_or vs k d = λ k low. get_or-insert_below vs p x d k low within in
    ⊎_elim
    (λ low. both _ _ _ _ (before i (omega (arith, order, low))) (before j low) (ascending i j d order (omega (arith, low, within))))
    (λ high. ⊎_elim
    (λ is. both _ _ _ _ (before i (omega (arith, order, is))) (here j is) (below i d (omega (arith, order, is))))
    (λ apart.
    let over : p < j = omega (arith, high, apart) in
    let last : j - 1 < length vs = omega (arith, more, over) in
    ⊎_elim
    (λ low. both _ _ _ _ (before i low) (behind vs x p j d within over) (ascending i (j - 1) d (omega (arith, low, over)) last))
    (λ not_low. ⊎_elim
    (λ is. both _ _ _ _ (here i is) (behind vs x p j d within over) (⊎_elim
    (λ next. subst (λ m. x.slot < (get_or vs m d).slot) (sym next) (above (omega (arith, last, next)) d))
    (λ far.
    let first = above (omega (arith, last, over)) d in
    let rest = ascending p (j - 1) d (omega (arith, over, far)) last in
    omega (arith, first, rest))
    (cases_eq (j - 1) p)))
    (λ off.
    let under : p < i = omega (arith, not_low, off) in
    both _ _ _ _ (behind vs x p i d within under) (behind vs x p j d within over) (ascending (i - 1) (j - 1) d (omega (arith, under, order)) last))
    (cases_eq i p))
    (cases_lt i p))
    (cases_eq j p))
    (cases_lt j p)

-- those before the place of a slot are below it
before_place : (slot : ℕ) (vs : List Volume) (k : ℕ) (d : Volume) → k < place_of slot vs → (get_or vs k d).slot < slot
before_place slot vs k d low = let is = prefix_len_passes (λ v. nat_lt v.slot slot) vs k d low in search (rules, is)

-- the one that stands at the place is not
at_place : (slot : ℕ) (vs : List Volume) (d : Volume) → place_of slot vs < length vs → slot ≤ (get_or vs (place_of slot vs) d).slot
at_place slot vs d inside = let is = prefix_len_stops (λ v. nat_lt v.slot slot) vs d inside in search (rules, is)

-- one more at the place of its slot, where no other has that slot
pub ascending_placed : (vs : List Volume) (x : Volume) (p : ℕ) → p ≡ place_of x.slot vs → p ≤ length vs → (p < length vs → (d : Volume) → (get_or vs p d).slot ≢ x.slot) → AreAscending vs → AreAscending (insert vs p x)
ascending_placed vs x p is within apart ascending = ascending_more vs x p within
    (λ k d low. before_place x.slot vs k d (omega (arith, low, is)))
    (λ inside d.
    let least : x.slot ≤ (get_or vs p d).slot = subst (λ m. x.slot ≤ (get_or vs m d).slot) (sym is) (at_place x.slot vs d (omega (arith, inside, is))) in
    omega (arith, least, apart inside d))
    ascending

-- the one that was found at a place has another slot, so it has there
pub apart_there : (vs : List Volume) (x : Volume) (p : ℕ) (found : Option (Bor Volume)) → MatchOption found (length vs ≤ p) (λ u. (p < length vs) × ((d : Volume) → u.now ≡ get_or vs p d)) → IfSome found (λ other. other.now.slot ≢ x.slot) → p < length vs → (d : Volume) → (get_or vs p d).slot ≢ x.slot
apart_there vs x p None got apart inside d = omega (arith, got, inside)
apart_there vs x p (Some u) got apart inside d = λ is. apart (ap (λ v. v.slot) (got.1 d) ∙ is)

-- where the one at the place of a slot has another, none has it
pub none_there : (vs : List Volume) (slot : ℕ) (p : ℕ) → p ≡ place_of slot vs → (p < length vs → (d : Volume) → (get_or vs p d).slot ≢ slot) → AreAscending vs → All (λ v. v.slot ≢ slot) vs
none_there vs slot p is apart ascending i d less =
    ⊎_elim
    (λ low. let below = before_place slot vs i d (omega (arith, low, is)) in omega (arith, below))
    (λ high. ⊎_elim
    (λ at. subst (λ m. (get_or vs m d).slot ≢ slot) (sym at) (apart (omega (arith, at, less)) d))
    (λ off.
    let least : slot ≤ (get_or vs p d).slot = subst (λ m. slot ≤ (get_or vs m d).slot) (sym is) (at_place slot vs d (omega (arith, high, is, less))) in
    let rise = ascending p i d (omega (arith, high, off)) less in
    omega (arith, least, rise))
    (cases_eq i p))
    (cases_lt i p)

-- the one that was found at a place is one of them
there : (vs : List Volume) (x : Volume) (p : ℕ) (found : Option (Bor Volume)) → MatchOption found (length vs ≤ p) (λ u. (p < length vs) × ((d : Volume) → u.now ≡ get_or vs p d)) → IsSomeAnd found (λ other. other.now.slot ≡ x.slot) → (other : Volume) × Contains vs other × (other.slot ≡ x.slot)
there vs x p None got same = search (rules, same)
there vs x p (Some u) got same = (u.now, subst (Contains vs) (sym (got.1 u.now)) (Contains-get_or vs p u.now got.0), same)

-- why a volume is refused, by the one that stands at its place
pub refused_beside : (vs : List Volume) (x : Volume) (p : ℕ) (found : Option (Bor Volume)) (errno : Errno) → p ≡ place_of x.slot vs → MatchOption found (length vs ≤ p) (λ u. (p < length vs) × ((d : Volume) → u.now ≡ get_or vs p d)) → AreAscending vs
    → (errno ≡ Busy) ⊎ (errno ≡ Invalid) → (errno ≡ Busy → IsSomeAnd found (λ other. other.now.slot ≡ x.slot)) → (errno ≡ Invalid → (HasSizes x → ⊥) × IfSome found (λ other. other.now.slot ≢ x.slot)) → IsRefused vs x errno
refused_beside vs x p found errno is got ascending either busy invalid = ⊎_elim
    (λ b. subst (IsRefused vs x) (sym b) (there vs x p found got (busy b)))
    (λ n. let no = invalid n in subst (IsRefused vs x) (sym n) (no.0, none_there vs x.slot p is (apart_there vs x p found got no.1) ascending))
    either

-- the first words each spell a volume
abbrev pub SpelledTo : List (Bor (List ℕ)) → ℕ → Type 0
SpelledTo words n = (i : ℕ) → i < n → (word : Bor (List ℕ)) → (v : Volume) × Spells (get_or words i word).now v

-- and so does one more
pub spelled_more : (words : List (Bor (List ℕ))) (n : ℕ) (d : Bor (List ℕ)) (v : Volume) → n < length words → SpelledTo words n → Spells (get_or words n d).now v → SpelledTo words (n + 1)
spelled_more words n d v inside before one i low word = ⊎_elim
    (λ less. before i less word)
    (λ high.
    let at : i ≡ n = omega (arith, low, high) in
    let same : get_or words n d ≡ get_or words i word = get_or_default words n d word inside ∙ ap (λ m. get_or words m word) (sym at) in
    (v, subst (λ w. Spells w.now v) same one))
    (cases_lt i n)

-- or it is the first that spells none
pub first_bad : (words : List (Bor (List ℕ))) (n : ℕ) (d : Bor (List ℕ)) → n < length words → SpelledTo words n → SpellsNone (get_or words n d).now → IsFirstBad words n
first_bad words n d inside before none = record { there = inside; bad = λ word. subst (λ w. SpellsNone w.now) (get_or_default words n d word inside) none; before = before }

-- what holds of each of some, and of one more, holds of each then
pub All-placed : (P : Volume → Type 0) (vs : List Volume) (p : ℕ) (x : Volume) → All P vs → P x → All P (insert vs p x)
All-placed P vs p x all one = All-append P _ _ (All-take P p vs all) (All-cons P x _ one (All-drop P p vs all))

-- ---- the parts of a word
-- no digit is a colon
digits_have_no_colon : (ds : List ℕ) → AllDigits 10 ds → (i : ℕ) → i < length ds → get_or ds i 0 ≢ 58
digits_have_no_colon [] all i inside is = omega (arith, inside)
digits_have_no_colon (d ∷ ds) all zero inside is = let wrong : digit_value 58 < 10 = subst (λ x. digit_value x < 10) is all.0 in search (rules, wrong)
digits_have_no_colon (d ∷ ds) all (suc i) inside is = digits_have_no_colon ds all.1 i (omega (arith, inside)) is

-- so the decimal of a number has none
pub decimal_has_no_colon : (n : ℕ) → n < 2 ^ 64 → HasNoColon (decimal n)
decimal_has_no_colon n small = digits_have_no_colon (decimal n) (decimal_is_IsNumeral n small).0.1

-- where a text is two with a colon between them, and the first has none, it is cut there
pub cut_there : (bs xs ys : List ℕ) (cut : Option (Bor (List ℕ) × Bor (List ℕ))) → IsSplitOnceResult 58 bs cut → bs ≡ parted xs ys → HasNoColon xs → IsSomeAnd cut (λ x. (x.0.now ≡ xs) × (x.1.now ≡ ys))
cut_there bs xs ys None found is none = split_after 58 bs xs ys None found (omega arith) is none
cut_there bs xs ys (Some cut) found is none = split_after 58 bs xs ys (Some cut) found (omega arith) is none

-- and where it has none, it is not cut
pub not_cut : (bs : List ℕ) (cut : Option (Bor (List ℕ) × Bor (List ℕ))) → IsSplitOnceResult 58 bs cut → HasNoColon bs → cut ≡ None
not_cut bs None found none = refl
not_cut bs (Some cut) found none =
    let at = split_parts 58 bs (Some cut) found (omega arith) in
    let inside : length cut.0.now < length bs = omega (arith, ap length at.0, length-append cut.0.now (58 ∷ cut.1.now)) in
    absurd (none (length cut.0.now) inside (ap (λ l. get_or l (length cut.0.now) 0) at.0 ∙ get_or_at cut.0.now 58 cut.1.now 0 (length cut.0.now) refl))

-- the halves of a text that is cut have the colon between them, and the first has none
pub apart_cut : (bs : List ℕ) (cut : Option (Bor (List ℕ) × Bor (List ℕ))) → IsSplitOnceResult 58 bs cut → IfSome cut (λ halves. HasNoColon halves.0.now × (bs ≡ parted halves.0.now halves.1.now))
apart_cut bs None found = tt
apart_cut bs (Some cut) found = let at = split_parts 58 bs (Some cut) found (omega arith) in (at.1, at.0)

-- and one that is not cut has none at all
pub free_uncut : (bs : List ℕ) (cut : Option (Bor (List ℕ) × Bor (List ℕ))) → IsSplitOnceResult 58 bs cut → cut ≡ None → HasNoColon bs
free_uncut bs None found is = split_parts 58 bs None found (omega arith)
free_uncut bs (Some cut) found is = search (rules, is)

-- a word whose halves were cut again and again is cut into its parts
pub is_cut : (word slot more log_bytes most blocks many home rest log : List ℕ) {size : Option (List ℕ)} → HasNoColon slot × (word ≡ parted slot more) → HasNoColon log_bytes × (more ≡ parted log_bytes most) → HasNoColon blocks × (most ≡ parted blocks many) → HasNoColon home × (many ≡ parted home rest) → HasNoColon log × (rest ≡ last_part log size)
    → IsCut word (record { slot = slot; log_bytes = log_bytes; blocks = blocks; home = home; log = log; size = size })
is_cut word slot more log_bytes most blocks many home rest log one two three four five = record {
  word_is = one.1 ∙ ap (parted slot) (two.1 ∙ ap (parted log_bytes) (three.1 ∙ ap (parted blocks) (four.1 ∙ ap (parted home) five.1)));
  no_colon = (one.0, two.0, three.0, four.0, five.0);
}

-- the last parts of a word: the name of the file of the log, and the size of a block, or what stands for it where it is left out
pub last_parts : (rest word : List ℕ) (v : Volume) (says_size : Bool) (log : List ℕ) (size : Option (Bor (List ℕ))) → rest ≡ last_of says_size v → (says_size ≡ false → v.size ≡ BLOCK_BYTES) → HasNoColon (string_bytes v.log) → word ≡ spelled_as says_size v
    → ((xs ys : List ℕ) → HasNoColon xs → rest ≡ parted xs ys → (log ≡ xs) × IsSomeAnd size (λ said. said.now ≡ ys))
    → (HasNoColon rest → (log ≡ rest) × (size ≡ None))
    → (log ≡ string_bytes v.log) × SaysSize v.size size × (word ≡ spelled_as (is_some size) v)
last_parts rest word v true log None is left_out free spells said unsaid = let found = said (string_bytes v.log) (decimal v.size) free is in search (rules, found)
last_parts rest word v true log (Some size) is left_out free spells said unsaid = let found = said (string_bytes v.log) (decimal v.size) free is in (found.0, found.1, spells)
last_parts rest word v false log None is left_out free spells said unsaid = let found = unsaid (subst HasNoColon (sym is) free) in (found.0 ∙ is, left_out refl, spells)
last_parts rest word v false log (Some size) is left_out free spells said unsaid = let found = unsaid (subst HasNoColon (sym is) free) in search (rules, found)

-- what is there once is one
pub some_is : (m n : ℕ) → Some m ≡ Some n → m ≡ n
some_is m n is = search (rules, is)

-- and so are three
pub three_are : (a b c x y z : ℕ) → ◌≡◌ {A = Option (ℕ × ℕ × ℕ)} (Some (a, b, c)) (Some (x, y, z)) → (a ≡ x) × (b ≡ y) × (c ≡ z)
three_are a b c x y z is = search (rules, is)

-- two volumes whose parts are the same have the same words
pub spelled_same : (v x : Volume) (says_size : Bool) → x.slot ≡ v.slot → x.log_bytes ≡ v.log_bytes → x.blocks ≡ v.blocks → x.size ≡ v.size → string_bytes x.home ≡ string_bytes v.home → string_bytes x.log ≡ string_bytes v.log → spelled_as says_size x ≡ spelled_as says_size v
spelled_same v x says_size slot log_bytes blocks size home log =
    let last : last_of says_size x ≡ last_of says_size v = last_same says_size in
    ap (λ n. parted (decimal n) (parted (decimal x.log_bytes) (parted (decimal x.blocks) (parted (string_bytes x.home) (last_of says_size x))))) slot
    ∙ ap (λ n. parted (decimal v.slot) (parted (decimal n) (parted (decimal x.blocks) (parted (string_bytes x.home) (last_of says_size x))))) log_bytes
    ∙ ap (λ n. parted (decimal v.slot) (parted (decimal v.log_bytes) (parted (decimal n) (parted (string_bytes x.home) (last_of says_size x))))) blocks
    ∙ ap (λ h. parted (decimal v.slot) (parted (decimal v.log_bytes) (parted (decimal v.blocks) (parted h (last_of says_size x))))) home
    ∙ ap (λ l. parted (decimal v.slot) (parted (decimal v.log_bytes) (parted (decimal v.blocks) (parted (string_bytes v.home) l)))) last
  where
    last_same : (says_size : Bool) → last_of says_size x ≡ last_of says_size v
    last_same true = ap (λ l. parted l (decimal x.size)) log ∙ ap (λ n. parted (string_bytes v.log) (decimal n)) size
    last_same false = log

-- so a word of the one is found to be a word of the other
pub found_spelled : (word : List ℕ) (v x : Volume) (says_size said found : Bool) → (IsTrue found → word ≡ spelled_as said x) × (word ≡ spelled_as said x → IsTrue found) → says_size ≡ said → word ≡ spelled_as says_size v
    → x.slot ≡ v.slot → x.log_bytes ≡ v.log_bytes → x.blocks ≡ v.blocks → x.size ≡ v.size → string_bytes x.home ≡ string_bytes v.home → string_bytes x.log ≡ string_bytes v.log → IsTrue found
found_spelled word v x says_size said found finds same is slot log_bytes blocks size home log =
    finds.1 (subst (λ b. word ≡ spelled_as b x) same (is ∙ sym (spelled_same v x says_size slot log_bytes blocks size home log)))

-- a size that is left out is found as 4,096
pub left_out_is : (said : Option (Bor (List ℕ))) (found : Option ℕ) (size : ℕ) → ((n : ℕ) → n < 2 ^ 32 → SaysSize n said → found ≡ Some n) → found ≡ Some size → is_some said ≡ false → size ≡ BLOCK_BYTES
left_out_is None found size finds is none = some_is size BLOCK_BYTES (sym is ∙ finds BLOCK_BYTES (omega arith) refl)
left_out_is (Some said) found size finds is none = search (rules, none)

-- the one that was made of the index of a slot is that slot
pub made_slot : (made : Option ℕ) (index n : ℕ) → ((IsSome made → index < SLOTS) × (index < SLOTS → IsSome made)) → IfSome made (λ slot. slot ≡ index) → Some index ≡ Some n → n < SLOTS → made ≡ Some n
made_slot None index n valid value read small = let there = valid.1 (subst (λ k. k < SLOTS) (sym (some_is index n read)) small) in search (rules, there)
made_slot (Some slot) index n valid value read small = ap Some (value ∙ some_is index n read)
