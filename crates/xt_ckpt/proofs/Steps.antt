-- One field that obeys its rule: the draft that it leads to.
use Rattle.std.proofs.Common.{◌≡◌, ◌∙◌, ℕ, ◌<◌, ◌≤◌, Bool, true, false, List, [], None, Some, ap, arith, le-leb, eq-eqb, ne_eqb}
use Rattle.std.proofs.lemmas.Bool.{lt-ltb}
use Rattle.std.specs.Int.{from_be_bytes, w32, w64}
use Rattle.std.specs.Prelude.{nat_le, nat_lt, ◌==◌, ◌&&◌, if◌then◌else◌}
use Rattle.xt_ckpt.specs.Fields.{Draft, after_field, provided, at_body, at_item, map_rule, size_rule, start_rule, with_item, start_word, end_word}
use Rattle.xt_base.specs.Form.{is_size}
use Rattle.xt_ckpt.specs.Grammar.{map_limit}
use Rattle.xt_ckpt.specs.declared.draft.Field.TheVariants as Field

-- a rule that holds
pub holds : (test : Bool) (d : Draft) → test ≡ true → provided test d ≡ Some d
holds test d h = ap (λ t. provided t d) h

-- the first word
pub start_step : (d : Draft) (f : List ℕ) → from_be_bytes w32 f ≡ start_word None → after_field Field.Start f d ≡ Some (record d { size = None; next = Field.Number })
start_step d f e = ap (λ w. start_rule w d) e

-- the first word of a text that says the size
pub sized_step : (d : Draft) (f : List ℕ) → from_be_bytes w32 f ≡ start_word (Some 0) → after_field Field.Start f d ≡ Some (record d { size = Some 0; next = Field.Number })
sized_step d f e = ap (λ w. start_rule w d) e

-- the size
pub size_step : (d : Draft) (f : List ℕ) (n : ℕ) → from_be_bytes w32 f ≡ n → is_size (Some n) ≡ true → after_field Field.Size f d ≡ Some (at_item (record d { size = Some n }))
size_step d f n e h = ap (λ v. size_rule v d) e ∙ holds (is_size (Some n)) (at_item (record d { size = Some n })) h

-- the number
pub number_step : (d : Draft) (f : List ℕ) (n : ℕ) → from_be_bytes w64 f ≡ n → 1 ≤ n → after_field Field.Number f d ≡ Some (record d { number = n; next = Field.Count })
number_step d f n e h =
    ap (λ v. provided (nat_le 1 v) (record d { number = v; next = Field.Count })) e ∙ holds (nat_le 1 n) (record d { number = n; next = Field.Count }) (le-leb 1 n h)

-- the count of items
pub count_step : (d : Draft) (f : List ℕ) (n : ℕ) → from_be_bytes w32 f ≡ n → 1 ≤ n → n ≤ 64 → after_field Field.Count f d ≡ Some (at_body d.size (record d { count = n }))
count_step d f n e h k =
    let both : (nat_le 1 n && nat_le n 64) ≡ true = ap (λ t. t && nat_le n 64) (le-leb 1 n h) ∙ le-leb n 64 k in
    ap (λ v. provided (nat_le 1 v && nat_le v 64) (at_body d.size (record d { count = v }))) e ∙ holds (nat_le 1 n && nat_le n 64) (at_body d.size (record d { count = n })) both

-- the block of an item
pub block_step : (d : Draft) (f : List ℕ) (b : ℕ) → from_be_bytes w64 f ≡ b → d.least ≤ b → after_field Field.Block f d ≡ Some (record d { next = Field.Map b })
block_step d f b e h =
    ap (λ v. provided (nat_le d.least v) (record d { next = Field.Map v })) e ∙ holds (nat_le d.least b) (record d { next = Field.Map b }) (le-leb d.least b h)

-- the map of its chunks
pub map_step : (d : Draft) (f : List ℕ) (b bits : ℕ) → from_be_bytes w32 f ≡ bits → bits < map_limit d.size → after_field (Field.Map b) f d ≡ Some (record d { next = Field.Flag b bits })
map_step d f b bits e h = ap (λ v. map_rule b v d) e ∙ holds (nat_lt bits (map_limit d.size)) (record d { next = Field.Flag b bits }) (lt-ltb bits (map_limit d.size) h)

-- the flag of a cancel
pub cancel_step : (d : Draft) (f : List ℕ) (b : ℕ) → from_be_bytes w32 f ≡ 1 → after_field (Field.Flag b 0) f d ≡ Some (with_item b 0 [] d)
cancel_step d f b e = holds (from_be_bytes w32 f == 1) (with_item b 0 [] d) (eq-eqb _ _ e)

-- the flag of logged chunks
pub flag_step : (d : Draft) (f : List ℕ) (b bits : ℕ) → 0 < bits → from_be_bytes w32 f ≡ 0 → after_field (Field.Flag b bits) f d ≡ Some (record d { next = Field.Content b bits })
flag_step d f b bits h e =
    let some : (bits == 0) ≡ false = ne_eqb bits 0 (λ e. omega arith) in
    ap (λ t. provided (from_be_bytes w32 f == (if t then 1 else 0)) (if t then with_item b 0 [] d else record d { next = Field.Content b bits })) some
    ∙ holds (from_be_bytes w32 f == 0) (record d { next = Field.Content b bits }) (eq-eqb _ _ e)

-- the word behind the items
pub end_step : (d : Draft) (f : List ℕ) → from_be_bytes w32 f ≡ end_word d.size → after_field Field.End f d ≡ Some (record d { next = Field.EndCount })
end_step d f e = holds (from_be_bytes w32 f == end_word d.size) (record d { next = Field.EndCount }) (eq-eqb _ _ e)

-- the count again
pub end_count_step : (d : Draft) (f : List ℕ) → from_be_bytes w32 f ≡ d.count → after_field Field.EndCount f d ≡ Some (record d { next = Field.EndNumber })
end_count_step d f e = holds (from_be_bytes w32 f == d.count) (record d { next = Field.EndNumber }) (eq-eqb _ _ e)

-- the number again
pub end_number_step : (d : Draft) (f : List ℕ) → from_be_bytes w64 f ≡ d.number → after_field Field.EndNumber f d ≡ Some (record d { next = Field.Nothing })
end_number_step d f e = holds (from_be_bytes w64 f == d.number) (record d { next = Field.Nothing }) (eq-eqb _ _ e)
