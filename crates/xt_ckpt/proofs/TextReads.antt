-- A text of the grammar is read, field by field, to its end.
use Rattle.std.proofs.Common.{None, Option, true, ◌≡◌, ◌∙◌, ℕ, suc, ◌+◌, ◌*◌, ◌^◌, ◌<◌, ◌≤◌, List, [], ◌∷◌, ◌++◌, length, Some, sym, ap, refl, subst, arith, append_assoc, inl, inr, eq-eqb, ne_eqb}
use Rattle.std.specs.Int.{to_be_bytes, w32, w64}
use Rattle.std.specs.Prelude.{codes, if◌then◌else◌, ◌/◌}
use Rattle.std.proofs.lemmas.List.{append-nil, length_push}
use Rattle.std.proofs.lemmas.Nat.{from_be_bytes-to_be_bytes_4, from_be_bytes-to_be_bytes_8, pow_pos}
use Rattle.xt_base.specs.Chunks.{places_of}
use Rattle.xt_base.specs.Form.{is_size}
use Rattle.xt_base.proofs.ChunkLemmas.{places_of-zero}
use Rattle.xt_ckpt.specs.Grammar.{Entry, end_of, head_of, map_limit, IsCancel, IsLogged, IsItem, AreItems, IsTextIn}
use Rattle.xt_ckpt.specs.Fields.{Draft, Reads, opening, width, after, at_item, with_item}
use Rattle.xt_ckpt.specs.Laws.{whole}
use Rattle.xt_ckpt.specs.declared.draft.Field.TheVariants as Field
use Rattle.xt_ckpt.proofs.Sizes.{size_below}
use Rattle.xt_ckpt.proofs.Ways.{reads_on}
use Rattle.xt_ckpt.proofs.Steps.{start_step, sized_step, size_step, number_step, count_step, block_step, map_step, cancel_step, flag_step, end_step, end_count_step, end_number_step}

-- one field alone
one_field : (d e : Draft) (bytes : List ℕ) → length bytes ≡ width d.next → after d bytes ≡ Some e → Reads d bytes e
one_field d e bytes len goes = subst (λ xs. Reads d xs e) (append-nil bytes) (Reads.field d e e bytes [] len goes (Reads.nothing e))

-- the draft with another item, whose block is below those that may follow
abbrev pub joined : Entry → Draft → Draft
joined e d = at_item (record d { items = d.items ++ e ∷ []; least = suc e.block })

-- where an item is to come, its block is next
pub block_next : (d : Draft) → length d.items < d.count → at_item d ≡ record d { next = Field.Block }
block_next d h = ap (λ t. record d { next = if t then Field.End else Field.Block }) (ne_eqb (length d.items) d.count (λ e. omega arith))

-- where all items are there, the end is next
pub end_next : (d : Draft) → length d.items ≡ d.count → at_item d ≡ record d { next = Field.End }
end_next d h = ap (λ t. record d { next = if t then Field.End else Field.Block }) (eq-eqb (length d.items) d.count h)

-- a block has a chunk
some_limit : (size : Option ℕ) → 0 < map_limit size
some_limit None = omega arith
some_limit (Some n) = pow_pos (n / 128)

-- the block and the map of an item
head_reads : (d : Draft) (block bits : ℕ) → length d.items < d.count → d.least ≤ block → block < 2 ^ 64 → bits < 2 ^ 32 → bits < map_limit d.size
    → Reads (at_item d) (to_be_bytes w64 block ++ to_be_bytes w32 bits) (record d { next = Field.Flag block bits })
head_reads d block bits room above b m within =
    let first : Reads (record d { next = Field.Block }) (to_be_bytes w64 block) (record d { next = Field.Map block }) =
    one_field (record d { next = Field.Block }) (record d { next = Field.Map block }) (to_be_bytes w64 block) refl (block_step (record d { next = Field.Block }) (to_be_bytes w64 block) block (from_be_bytes-to_be_bytes_8 block b) above) in
    let second : Reads (record d { next = Field.Map block }) (to_be_bytes w32 bits) (record d { next = Field.Flag block bits }) =
    one_field (record d { next = Field.Map block }) (record d { next = Field.Flag block bits }) (to_be_bytes w32 bits) refl (map_step (record d { next = Field.Map block }) (to_be_bytes w32 bits) block bits (from_be_bytes-to_be_bytes_4 bits m) within) in
    subst (λ z. Reads z (to_be_bytes w64 block ++ to_be_bytes w32 bits) (record d { next = Field.Flag block bits })) (sym (block_next d room))
    (reads_on _ _ _ (to_be_bytes w64 block) (to_be_bytes w32 bits) first second)

-- a cancel
cancel_reads : (d : Draft) (bytes : List ℕ) (e : Entry) → length d.items < d.count → d.least ≤ e.block → IsCancel bytes e → Reads (at_item d) bytes (joined e d)
cancel_reads d bytes e room above is =
    let made : Entry = record { block = e.block; chunks = places_of 0; content = [] } in
    let same : made ≡ e = ap (λ c. record { block = e.block; chunks = c; content = [] }) (places_of-zero ∙ sym is.chunks) ∙ ap (λ c. record { block = e.block; chunks = e.chunks; content = c }) (sym is.content) in
    let flag : Reads (record d { next = Field.Flag e.block 0 }) (to_be_bytes w32 1) (with_item e.block 0 [] d) =
    one_field (record d { next = Field.Flag e.block 0 }) (with_item e.block 0 [] d) (to_be_bytes w32 1) refl (cancel_step (record d { next = Field.Flag e.block 0 }) (to_be_bytes w32 1) e.block refl) in
    let all : Reads (at_item d) ((to_be_bytes w64 e.block ++ to_be_bytes w32 0) ++ to_be_bytes w32 1) (with_item e.block 0 [] d) =
    reads_on _ _ _ (to_be_bytes w64 e.block ++ to_be_bytes w32 0) (to_be_bytes w32 1) (head_reads d e.block 0 room above is.block (omega arith) (some_limit d.size)) flag in
    subst (λ xs. Reads (at_item d) xs (joined e d)) (sym is.fields) (subst (λ i. Reads (at_item d) (to_be_bytes w64 e.block ++ to_be_bytes w32 0 ++ to_be_bytes w32 1) (joined i d)) same all)

-- logged chunks
logged_reads : (d : Draft) (bytes : List ℕ) (e : Entry) → length d.items < d.count → d.least ≤ e.block → IsLogged d.size bytes e → Reads (at_item d) bytes (joined e d)
logged_reads d bytes e room above is =
    let made : Entry = record { block = e.block; chunks = places_of is.bits; content = e.content } in
    let same : made ≡ e = ap (λ c. record { block = e.block; chunks = c; content = e.content }) (sym is.chunks) in
    let at_flag : Draft = record d { next = Field.Flag e.block is.bits } in
    let at_content : Draft = record d { next = Field.Content e.block is.bits } in
    let flag : Reads at_flag (to_be_bytes w32 0) at_content = one_field at_flag at_content (to_be_bytes w32 0) refl (flag_step at_flag (to_be_bytes w32 0) e.block is.bits is.some refl) in
    let content : Reads at_content e.content (with_item e.block is.bits e.content d) =
    one_field at_content (with_item e.block is.bits e.content d) e.content (is.content ∙ ap (λ c. 128 * length c) is.chunks) refl in
    let all : Reads (at_item d) (((to_be_bytes w64 e.block ++ to_be_bytes w32 is.bits) ++ to_be_bytes w32 0) ++ e.content) (with_item e.block is.bits e.content d) =
    reads_on _ _ _ ((to_be_bytes w64 e.block ++ to_be_bytes w32 is.bits) ++ to_be_bytes w32 0) e.content
    (reads_on _ _ _ (to_be_bytes w64 e.block ++ to_be_bytes w32 is.bits) (to_be_bytes w32 0) (head_reads d e.block is.bits room above is.block is.word is.within) flag) content in
    subst (λ xs. Reads (at_item d) xs (joined e d)) (sym is.fields) (subst (λ i. Reads (at_item d) (to_be_bytes w64 e.block ++ to_be_bytes w32 is.bits ++ to_be_bytes w32 0 ++ e.content) (joined i d)) same all)

-- an item
item_reads : (d : Draft) (bytes : List ℕ) (e : Entry) → length d.items < d.count → d.least ≤ e.block → IsItem d.size bytes e → Reads (at_item d) bytes (joined e d)
item_reads d bytes e room above (inl is) = cancel_reads d bytes e room above is
item_reads d bytes e room above (inr is) = logged_reads d bytes e room above is

-- items, as many as are still to come
pub items_read : (d : Draft) (bytes : List ℕ) (es : List Entry) → length d.items + length es ≡ d.count → AreItems d.size d.least bytes es
    → (least : ℕ) × Reads (at_item d) bytes (at_item (record d { items = d.items ++ es; least = least }))
items_read d bytes [] all is =
    (d.least, subst (λ xs. Reads (at_item d) xs (at_item (record d { items = d.items ++ [] }))) (sym is) (subst (λ es. Reads (at_item d) [] (at_item (record d { items = es }))) (sym (append-nil d.items)) (Reads.nothing (at_item d))))
items_read d bytes (e ∷ es) all is =
    let here = item_reads d is.0 e (omega arith) is.3 is.4 in
    let next : Draft = record d { items = d.items ++ e ∷ []; least = suc e.block } in
    let rest = items_read next is.1 es (omega (arith, length_push d.items e)) is.5 in
    let both = reads_on (at_item d) (at_item next) (at_item (record next { items = next.items ++ es; least = rest.0 })) is.0 is.1 here rest.1 in (
      rest.0,
      subst (λ xs. Reads (at_item d) xs (at_item (record d { items = d.items ++ e ∷ es; least = rest.0 }))) (sym is.2)
          (subst (λ items. Reads (at_item d) (is.0 ++ is.1) (at_item (record d { items = items; least = rest.0 }))) (append_assoc d.items (e ∷ []) es) both),
    )

-- the fields before the items, where the size is said
sized_reads : (size number count : ℕ) → is_size (Some size) ≡ true → 1 ≤ number → number < 2 ^ 64 → 1 ≤ count → count ≤ 64
    → Reads opening (head_of (Some size) number count) (at_item (record opening { size = Some size; number = number; count = count }))
sized_reads size number count is first range some few =
    let at_number : Draft = record opening { size = Some 0; next = Field.Number } in
    let at_count : Draft = record opening { size = Some 0; number = number; next = Field.Count } in
    let at_size : Draft = record opening { size = Some 0; number = number; count = count; next = Field.Size } in
    let one = one_field opening at_number (codes "XCP2") refl (sized_step opening (codes "XCP2") refl) in
    let two = one_field at_number at_count (to_be_bytes w64 number) refl (number_step at_number (to_be_bytes w64 number) number (from_be_bytes-to_be_bytes_8 number range) first) in
    let three = one_field at_count at_size (to_be_bytes w32 count) refl (count_step at_count (to_be_bytes w32 count) count (from_be_bytes-to_be_bytes_4 count (omega arith)) some few) in
    let four = one_field at_size (at_item (record opening { size = Some size; number = number; count = count })) (to_be_bytes w32 size) refl (size_step at_size (to_be_bytes w32 size) size (from_be_bytes-to_be_bytes_4 size (size_below size is)) is) in
    reads_on _ _ _ (codes "XCP2" ++ to_be_bytes w64 number ++ to_be_bytes w32 count) (to_be_bytes w32 size)
    (reads_on _ _ _ (codes "XCP2" ++ to_be_bytes w64 number) (to_be_bytes w32 count) (reads_on _ _ _ (codes "XCP2") (to_be_bytes w64 number) one two) three) four

-- the fields before the items, where it is not
plain_reads : (number count : ℕ) → 1 ≤ number → number < 2 ^ 64 → 1 ≤ count → count ≤ 64
    → Reads opening (codes "XCP1" ++ to_be_bytes w64 number ++ to_be_bytes w32 count) (at_item (record opening { number = number; count = count }))
plain_reads number count first range some few =
    let at_number : Draft = record opening { next = Field.Number } in
    let at_count : Draft = record opening { number = number; next = Field.Count } in
    let one = one_field opening at_number (codes "XCP1") refl (start_step opening (codes "XCP1") refl) in
    let two = one_field at_number at_count (to_be_bytes w64 number) refl (number_step at_number (to_be_bytes w64 number) number (from_be_bytes-to_be_bytes_8 number range) first) in
    let three = one_field at_count (at_item (record opening { number = number; count = count })) (to_be_bytes w32 count) refl (count_step at_count (to_be_bytes w32 count) count (from_be_bytes-to_be_bytes_4 count (omega arith)) some few) in
    reads_on _ _ _ (codes "XCP1" ++ to_be_bytes w64 number) (to_be_bytes w32 count) (reads_on _ _ _ (codes "XCP1") (to_be_bytes w64 number) one two) three

-- the fields before the items
start_reads : (size : Option ℕ) (number count : ℕ) → is_size size ≡ true → 1 ≤ number → number < 2 ^ 64 → 1 ≤ count → count ≤ 64
    → Reads opening (head_of size number count) (at_item (record opening { size = size; number = number; count = count }))
start_reads None number count is first range some few = plain_reads number count first range some few
start_reads (Some size) number count is first range some few = sized_reads size number count is first range some few

-- the fields behind the items
-- the last word has four bytes
end_width : (size : Option ℕ) → length (end_of size) ≡ 4
end_width None = refl
end_width (Some n) = refl

end_reads : (d : Draft) (front : List ℕ) → d.number < 2 ^ 64 → d.count ≤ 64 → Reads opening front (record d { next = Field.End })
    → Reads opening (front ++ end_of d.size ++ to_be_bytes w32 d.count ++ to_be_bytes w64 d.number) (record d { next = Field.Nothing })
end_reads d front range few before =
    let at_end : Draft = record d { next = Field.End } in
    let at_count : Draft = record d { next = Field.EndCount } in
    let at_number : Draft = record d { next = Field.EndNumber } in
    let one = one_field at_end at_count (end_of d.size) (end_width d.size) (end_step at_end (end_of d.size) refl) in
    let two = one_field at_count at_number (to_be_bytes w32 d.count) refl (end_count_step at_count (to_be_bytes w32 d.count) (from_be_bytes-to_be_bytes_4 d.count (omega arith))) in
    let three = one_field at_number (record d { next = Field.Nothing }) (to_be_bytes w64 d.number) refl (end_number_step at_number (to_be_bytes w64 d.number) (from_be_bytes-to_be_bytes_8 d.number range)) in
    reads_on _ _ _ (front ++ end_of d.size ++ to_be_bytes w32 d.count) (to_be_bytes w64 d.number)
    (reads_on _ _ _ (front ++ end_of d.size) (to_be_bytes w32 d.count) (reads_on _ _ _ front (end_of d.size) before one) two) three

-- a text
pub text_reads : (size : Option ℕ) (bytes : List ℕ) (number : ℕ) (items : List Entry) → IsTextIn size bytes number items → (least : ℕ) × Reads opening bytes (whole size number items least)
text_reads size bytes number items is =
    let start = start_reads size number (length items) is.sized is.first is.range is.some is.few in
    let at_first : Draft = record opening { size = size; number = number; count = length items } in
    let each = items_read at_first is.body items (omega arith) is.each in
    let at_last : Draft = record { size = size; number = number; count = length items; items = items; least = each.0; next = Field.Start } in
    let head = head_of size number (length items) in
    let before : Reads opening (head ++ is.body) (at_item at_last) = reads_on _ _ _ head is.body start each.1 in
    let ended : Reads opening (head ++ is.body) (record at_last { next = Field.End }) = subst (λ d. Reads opening (head ++ is.body) d) (end_next at_last refl) before in
    (each.0, subst (λ xs. Reads opening xs (whole size number items each.0)) (sym is.fields) (end_reads at_last (head ++ is.body) is.range is.few ended))
