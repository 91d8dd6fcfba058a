-- Data read from its text, loosely: more texts are read than are spellings, and each spelling gives its bytes.
use Rattle.std.specs.Prelude.{Bool, List, None, Option, Some, [], false, if◌then◌else◌, length, nat_le, replicate, ℕ, ◌&&◌, ◌*◌, ◌++◌, ◌+◌, ◌-◌, ◌==◌, ◌∷◌}
use Rattle.std.specs.Str.{bytes_eq}
use Rattle.xt_base.specs.Form.{is_size}
use Rattle.xt_base.specs.declared.sizes.TheConstants.{DATA_BYTES}
use Rattle.xt_text.specs.DataText.{spelling}
use Rattle.xt_text.specs.Reading.{number_on, ◌>>=◌}
use Rattle.xt_text.specs.declared.data_text.TheConstants.{DIGITS}
use Rattle.xt_text.specs.declared.data_text.Place.{Place}
use Rattle.xt_text.specs.declared.data_text.Place.TheVariants.{Count, Front, Half, Whole}

-- the value of a hexadecimal digit in lower case
abbrev pub hex_value : ℕ → Option ℕ
hex_value c = if nat_le 48 c && nat_le c 57 then Some (c - 48) else if nat_le 97 c && nat_le c 102 then Some (c - 87) else None

-- the byte that two digits spell
abbrev pub byte_value : ℕ → ℕ → Option ℕ
byte_value high low = hex_value high >>= λ h. hex_value low >>= λ l. Some (DIGITS * h + l)

-- bytes with a run behind them; none over what data may have
abbrev pub with_run : List ℕ → ℕ → ℕ → Option (List ℕ)
with_run bytes byte count = if nat_le count (DATA_BYTES - length bytes) then Some (bytes ++ replicate count byte) else None

-- where a part begins: at a dot nothing has begun
abbrev pub front_at : ℕ → Place
front_at c = if c == 46 then Front else Half c

-- the bytes with a run behind them, and a place
abbrev pub with_run_at : List ℕ → ℕ → ℕ → Place → Option (List ℕ × Place)
with_run_at bytes byte count place = with_run bytes byte count >>= λ more. Some (more, place)

-- the bytes and the place after one more character
abbrev pub next : List ℕ → Place → ℕ → Option (List ℕ × Place)
next bytes Front c = Some (bytes, front_at c)
next bytes (Half high) c = byte_value high c >>= λ byte. Some (bytes, Whole byte)
next bytes (Whole byte) c = if c == 42 then Some (bytes, Count byte 0) else with_run_at bytes byte 1 (front_at c)
next bytes (Count byte count) c = if c == 46 then with_run_at bytes byte count Front else (number_on count c >>= λ more. Some (bytes, Count byte more))

-- the bytes at the end of the text
abbrev pub at_end : List ℕ → Place → Option (List ℕ)
at_end bytes Front = Some bytes
at_end bytes (Half high) = None
at_end bytes (Whole byte) = with_run bytes byte 1
at_end bytes (Count byte count) = with_run bytes byte count

-- a count stands at the front of a text
abbrev pub is_count : List ℕ → Bool
is_count [] = false
is_count (c ∷ cs) = c == 42

-- what the rest of a text gives
abbrev pub reads : List ℕ → Place → List ℕ → Option (List ℕ)
reads bytes place [] = at_end bytes place
reads bytes place (c ∷ cs) = next bytes place c >>= λ p. reads p.0 p.1 cs

-- what a text gives; a dash alone gives no bytes
abbrev pub read_data : List ℕ → Option (List ℕ)
read_data text = if bytes_eq text (45 ∷ []) then Some [] else reads [] Front text

-- the bytes that a text spells in their one spelling
abbrev pub spelled_data : List ℕ → Option (List ℕ)
spelled_data text = read_data text >>= λ bytes. if bytes_eq text (spelling bytes) then Some bytes else None

-- what a text gives where it gives the content of a block
abbrev pub read_content : List ℕ → Option (List ℕ)
read_content text = read_data text >>= λ bytes. if is_size (Some (length bytes)) then Some bytes else None
