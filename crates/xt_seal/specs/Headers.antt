-- The header of a sealed log: which bytes it has. Numbers are unsigned, the high byte first.
use Rattle.std.specs.Int.{to_be_bytes, w32, w64}
use Rattle.std.specs.Prelude.{List, codes, length, ℕ, ◌++◌, ◌<◌, ◌^◌, ◌≡◌}
use Rattle.xt_seal.specs.Seal.{seal_of}
use Rattle.xt_seal.specs.declared.header.Header.{Header}

-- a header without its seal: `XCL1`, the bytes of a block, the size of the mount's log, four zeros, the generation, the salt, the link, the name
unfoldable pub head_bytes : Header → List ℕ
head_bytes h =
    codes "XCL1"
    ++ (to_be_bytes w32 h.block_size ++ (to_be_bytes w32 h.log_bytes ++ (to_be_bytes w32 0 ++ (to_be_bytes w64 h.generation ++ (to_be_bytes w64 h.salt ++ (h.link ++ h.name))))))

-- a header, and its seal
abbrev pub header_bytes : Header → List ℕ
header_bytes h = head_bytes h ++ seal_of (head_bytes h)

-- its numbers fit into their fields, and its link and its name fill theirs
pub record IsHeader (h : Header) : Type 0 where
  pub block_size : h.block_size < 2 ^ 32
  pub log_bytes : h.log_bytes < 2 ^ 32
  pub generation : h.generation < 2 ^ 64
  pub salt : h.salt < 2 ^ 64
  pub link : length h.link ≡ 8
  pub name : length h.name ≡ 16
