-- Lines of a text, one after another.
use Rattle.std.proofs.Common.{Bool, ap₂, cond, false, true, true≢false, ◌&&◌, add-one, one-add, le_of_suc-le-suc, suc-le-suc, not-suc-le-zero, inl, inr, suc, zero, ◌-◌, ◌≡◌, ◌∙◌, ◌+◌, ◌≤◌, ◌<◌, ◌≢◌, ◌⊎◌, ℕ, List, [], ◌∷◌, ◌++◌, Option, Some, None, sym, ap, subst, refl, length, take, drop, append_assoc, append-nil, arith, min}
use Rattle.std.proofs.lemmas.Bool.{eqb-true}
use Rattle.std.proofs.lemmas.List.{flat_map_more, length-take, take_all, take_rest}
use Rattle.std.specs.List.{prefix_len, slice_get}
use Rattle.std.specs.Prelude.{IfSome, not, option_map, unwrap_or, ◌==◌}
use Rattle.xt_base.proofs.MapLemmas.{some_none}
use Rattle.xt_base.specs.Sound.{Each}
use Rattle.xt_base.specs.declared.steps.Step.{Step}
use Rattle.xt_offline.specs.Printing.{ended}
use Rattle.xt_offline.specs.Script.{IsBadAt, IsBadLine, IsBadScript, IsCut, IsParsed, IsScript, is_one_line, script_text}
use Rattle.xt_text.proofs.ParseLemmas.{parsed_again}
use Rattle.xt_text.specs.LineReading.{IsReadBehind, parsed}
use Rattle.xt_text.specs.Lines.{IsStep, line_of}

-- a list is cut at an element
pub cut_at : {X : Type 0} (xs : List X) (i : ℕ) (x : X) → slice_get xs i ≡ Some x → xs ≡ take i xs ++ x ∷ drop (suc i) xs
cut_at [] i x at = some_none x _ (sym at)
cut_at (y ∷ xs) zero x at = ap (λ z. z ∷ xs) (ap (λ o. unwrap_or o y) at)
cut_at (y ∷ xs) (suc i) x at = ap (λ zs. y ∷ zs) (cut_at xs i x at)

-- how many bytes stand before the first newline
abbrev pub line_end : List ℕ → ℕ
line_end text = prefix_len (λ b. not (b == 10)) text

-- a byte that is no other than a newline
pub newline_is : (b : ℕ) → not (b == 10) ≡ false → b ≡ 10
newline_is b is = eqb-true b 10 (not_false (b == 10) is)
  where
    not_false : (t : Bool) → not t ≡ false → t ≡ true
    not_false true i = refl
    not_false false i = absurd (true≢false i)

-- a newline stands after the first line
pub at_newline : (text : List ℕ) → line_end text < length text → slice_get text (line_end text) ≡ Some 10
at_newline [] less = absurd (not-suc-le-zero less)
at_newline (x ∷ xs) less = found (not (x == 10)) refl (1 + line_end xs) (one-add (line_end xs)) less (at_newline xs)
  where
    found : (b : Bool) → not (x == 10) ≡ b → (m : ℕ) → m ≡ suc (line_end xs) → cond b m 0 < suc (length xs) → (line_end xs < length xs → slice_get xs (line_end xs) ≡ Some 10) → slice_get (x ∷ xs) (cond b m 0) ≡ Some 10
    found true is m one l rest = subst (λ k. slice_get (x ∷ xs) k ≡ Some 10) (sym one) (rest (le_of_suc-le-suc (subst (λ k. k < suc (length xs)) one l)))
    found false is m one l rest = ap Some (newline_is x is)

-- no newline stands in the first line
pub line_clear : (text : List ℕ) → is_one_line (take (line_end text) text) ≡ true
line_clear [] = refl
line_clear (x ∷ xs) = clear (not (x == 10)) refl (1 + line_end xs) (one-add (line_end xs)) (line_clear xs)
  where
    clear : (b : Bool) → not (x == 10) ≡ b → (m : ℕ) → m ≡ suc (line_end xs) → is_one_line (take (line_end xs) xs) ≡ true → is_one_line (take (cond b m 0) (x ∷ xs)) ≡ true
    clear true is m one rest = subst (λ k. is_one_line (take k (x ∷ xs)) ≡ true) (sym one) (ap₂ (λ p q. p && q) is rest)
    clear false is m one rest = refl

-- a text is its first line, a newline, and the rest
pub cut_line : (text : List ℕ) (len : ℕ) → len ≡ line_end text → len < length text → IsCut text (take len text) (take (length text - (len + 1)) (drop (len + 1) text))
cut_line text len is less = inl (cut_at text len 10 at ∙ (ap (λ n. take len text ++ 10 ∷ drop n text) (sym (add-one len)) ∙ ap (λ t. take len text ++ 10 ∷ t) (sym (take_rest text (len + 1)))))
  where
    at : slice_get text len ≡ Some 10
    at = subst (λ n. slice_get text n ≡ Some 10) (sym is) (at_newline text (subst (λ n. n < length text) is less))

-- a text with no newline is its first line
pub cut_whole : (text : List ℕ) → IsCut text text []
cut_whole text = inr (refl, refl)

-- the first line is one line
pub one_line : (text : List ℕ) (len : ℕ) → len ≡ line_end text → is_one_line (take len text) ≡ true
one_line text len is = subst (λ n. is_one_line (take n text) ≡ true) (sym is) (line_clear text)

-- so is a text with no newline
pub one_whole : (text : List ℕ) (len : ℕ) → len ≡ line_end text → length text ≤ len → is_one_line text ≡ true
one_whole text len is long = subst (λ t. is_one_line t ≡ true) (take_all len text long) (one_line text len is)

-- the lines of steps, with one more
pub text_more : (steps : List Step) (x : Step) → script_text steps ++ ended (line_of x) ≡ script_text (steps ++ x ∷ [])
text_more steps x = flat_map_more (λ y. ended (line_of y)) [] steps x

-- each of some, and one more
pub each_more : (P : Step → Type 0) (steps : List Step) (x : Step) → Each P steps → P x → Each P (steps ++ x ∷ [])
each_more P [] x all holds = (holds, tt)
each_more P (y ∷ steps) x all holds = (all.0, each_more P steps x all.1 holds)

-- the same before what comes after
pub text_before : (steps : List Step) (x : Step) (after : List ℕ) → script_text steps ++ (ended (line_of x) ++ after) ≡ script_text (steps ++ x ∷ []) ++ after
text_before steps x after = sym (append_assoc (script_text steps) (ended (line_of x)) after) ∙ ap (λ t. t ++ after) (text_more steps x)

-- a line and its newline before what comes after
pub line_before : (line after : List ℕ) → line ++ 10 ∷ after ≡ ended line ++ after
line_before line after = sym (append_assoc line (10 ∷ []) after)

-- a step's line was read, and its newline
pub parsed_line : (script : List ℕ) (steps : List Step) (x : Step) (after : List ℕ) → IsStep x → script ≡ script_text steps ++ (ended (line_of x) ++ after) → Each IsStep steps → IsParsed script (steps ++ x ∷ []) after
parsed_line script steps x after valid text all = record {
  valid = each_more IsStep steps x all valid;
  text = inl (text ∙ text_before steps x after);
}

-- the last line was read, which had no newline
pub parsed_last : (script : List ℕ) (steps : List Step) (x : Step) → IsStep x → (script ≡ script_text steps ++ line_of x) → Each IsStep steps → IsParsed script (steps ++ x ∷ []) []
parsed_last script steps x valid text all = record {
  valid = each_more IsStep steps x all valid;
  text = inr (refl, ap (λ t. t ++ 10 ∷ []) text ∙ append_assoc (script_text steps) (line_of x) (10 ∷ []) ∙ text_more steps x);
}

-- one more line was read
pub parsed_more : (script : List ℕ) (steps : List Step) (rest line after : List ℕ) (x : Step) → IsParsed script steps rest → IsCut rest line after → rest ≢ [] → line ≡ line_of x → IsStep x → IsParsed script (steps ++ x ∷ []) after
parsed_more script steps rest line after x parsed cut left same valid = more parsed.text cut
  where
    more : (script ≡ script_text steps ++ rest) ⊎ ((rest ≡ []) × (script ++ 10 ∷ [] ≡ script_text steps)) → IsCut rest line after → IsParsed script (steps ++ x ∷ []) after
    more (inr none) c = absurd (left none.0)
    more (inl text) (inl c) = parsed_line script steps x after valid (text ∙ ap (λ t. script_text steps ++ t) (c ∙ (ap (λ t. t ++ 10 ∷ after) same ∙ line_before (line_of x) after))) parsed.valid
    more (inl text) (inr c) = subst (λ a. IsParsed script (steps ++ x ∷ []) a) (sym c.1) (parsed_last script steps x valid (text ∙ ap (λ t. script_text steps ++ t) (c.0 ∙ same)) parsed.valid)

-- the same of a step that was put behind those that were read
pub parsed_behind : (script : List ℕ) (steps longer : List Step) (rest line after : List ℕ) → IsParsed script steps rest → IsCut rest line after → rest ≢ [] → IsReadBehind line longer steps → IsParsed script longer after
parsed_behind script steps longer rest line after parsed cut left read = subst (λ l. IsParsed script l after) (sym read.behind) (parsed_more script steps rest line after read.step parsed cut left read.own read.valid)

-- what was read up to a limit and did not reach it is all that was left
pub taken_whole : (xs : List ℕ) (n : ℕ) → length (take n xs) < n → take n xs ≡ xs
taken_whole [] zero short = refl
taken_whole [] (suc n) short = refl
taken_whole (x ∷ xs) zero short = absurd (not-suc-le-zero short)
taken_whole (x ∷ xs) (suc n) short = ap (λ zs. x ∷ zs) (taken_whole xs n (le_of_suc-le-suc short))

-- the same where what is left is known
pub read_whole : (left : Option (List ℕ)) (got : List ℕ) → IfSome left (λ bytes. got ≡ take 16777217 bytes) → length got ≤ 16777216 → IfSome left (λ bytes. got ≡ bytes)
read_whole None got read short = tt
read_whole (Some bytes) got read short = read ∙ taken_whole bytes 16777217 (subst (λ xs. length xs < 16777217) read (suc-le-suc short))

-- what was read up to a limit and passed it is part of something longer
pub read_long : (left : Option (List ℕ)) (got : List ℕ) → IfSome left (λ bytes. got ≡ take 16777217 bytes) → 16777216 < length got → IfSome left (λ bytes. 16777216 < length bytes)
read_long None got read long = tt
read_long (Some bytes) got read long =
    let all : length got ≡ min 16777217 (length bytes) = ap (λ xs. length xs) read ∙ length-take 16777217 bytes in
    omega arith

-- what was read after nothing up to a limit
pub read_limited : (left inner : Option (List ℕ)) (limit : ℕ) (before got : List ℕ) → inner ≡ left → limit ≡ 16777217 → before ≡ [] → IfSome (option_map (take limit) inner) (λ xs. got ≡ before ++ xs) → IfSome left (λ bytes. got ≡ take 16777217 bytes)
read_limited left inner limit before got same whole none read =
    known left (subst (λ i. IfSome (option_map (take 16777217) i) (λ xs. got ≡ xs)) same (subst (λ n. IfSome (option_map (take n) inner) (λ xs. got ≡ xs)) whole (subst (λ b. IfSome (option_map (take limit) inner) (λ xs. got ≡ b ++ xs)) none read)))
  where
    known : (l : Option (List ℕ)) → IfSome (option_map (take 16777217) l) (λ xs. got ≡ xs) → IfSome l (λ bytes. got ≡ take 16777217 bytes)
    known None k = tt
    known (Some bytes) k = k

-- a line that is no step's follows the lines of steps
pub bad_here : (script : List ℕ) (steps : List Step) (rest line after : List ℕ) → IsParsed script steps rest → IsCut rest line after → rest ≢ [] → is_one_line line ≡ true → IsBadLine line → IsBadScript script (length steps + 1)
bad_here script steps rest line after parsed cut left one bad = (steps, (line, (after, here parsed.text cut)))
  where
    at : (script ≡ script_text steps ++ line) ⊎ (script ≡ script_text steps ++ (ended line ++ after)) → IsBadAt script (length steps + 1) steps line after
    at text = record { valid = parsed.valid; text = text; one = one; bad = bad; place = refl }

    here : (script ≡ script_text steps ++ rest) ⊎ ((rest ≡ []) × (script ++ 10 ∷ [] ≡ script_text steps)) → IsCut rest line after → IsBadAt script (length steps + 1) steps line after
    here (inr none) c = absurd (left none.0)
    here (inl text) (inl c) = at (inr (text ∙ ap (λ t. script_text steps ++ t) (c ∙ line_before line after)))
    here (inl text) (inr c) = at (inl (text ∙ ap (λ t. script_text steps ++ t) c.0))

-- a line at which a parser says Spelling is no step's
pub bad_line : (line : List ℕ) → parsed line ≡ None → IsBadLine line
bad_line line none x valid same = some_none x _ (sym (parsed_again x valid) ∙ ap parsed (sym same) ∙ none)

-- all that was read
pub all_parsed : (script : List ℕ) (steps : List Step) (rest : List ℕ) → IsParsed script steps rest → rest ≡ [] → IsScript script steps
all_parsed script steps rest parsed none = record { valid = parsed.valid; text = whole parsed.text }
  where
    whole : (script ≡ script_text steps ++ rest) ⊎ ((rest ≡ []) × (script ++ 10 ∷ [] ≡ script_text steps)) → (script ≡ script_text steps) ⊎ (script ++ 10 ∷ [] ≡ script_text steps)
    whole (inl text) = inl (text ∙ (ap (λ t. script_text steps ++ t) none ∙ append-nil (script_text steps)))
    whole (inr last) = inr last.1
