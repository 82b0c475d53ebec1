-- How bytes stand in the texts of a JSON object.
use Rattle.std.specs.Prelude.{ℕ, ◌+◌, ◌/◌, ◌%◌, Bool, true, false, ◌&&◌, ◌||◌, not, ◌==◌, nat_lt, nat_le, List, [], ◌∷◌, ◌++◌, codes, if◌then◌else◌}
use Rattle.std.specs.List.{flat_map}
use Rattle.syslog_lines.specs.declared.escape.Coding.{Coding}
use Rattle.syslog_lines.specs.declared.escape.Coding.TheVariants.{Text, Escaped}

-- whether bytes from 128 on and backslashes have escapes of their own, within the text
abbrev pub is_escaped : Coding → Bool
is_escaped Text = false
is_escaped Escaped = true

-- whether a byte stands for itself
abbrev pub is_plain : Coding → ℕ → Bool
is_plain c b = nat_le 32 b && (not (b == 34) && (not (b == 92) && (nat_lt b 128 || not (is_escaped c))))

-- a hexadecimal digit
abbrev pub hex_of : ℕ → ℕ
hex_of d = if nat_lt d 10 then 48 + d else 87 + d

abbrev pub hex_pair : ℕ → List ℕ
hex_pair b = hex_of (b / 16) ∷ hex_of (b % 16) ∷ []

-- a byte as it stands in a JSON text: a quote, a backslash and the control characters by the escapes of JSON
abbrev pub byte_text : Coding → ℕ → List ℕ
byte_text c b =
    if is_plain c b then b ∷ []
    else if b == 34 then codes "\\\""
    else if b == 92 then (if is_escaped c then codes "\\\\\\\\" else codes "\\\\")
    else if b == 10 then codes "\\n"
    else if b == 13 then codes "\\r"
    else if b == 9 then codes "\\t"
    else if nat_lt b 32 then codes "\\u00" ++ hex_pair b
    else codes "\\\\x" ++ hex_pair b

-- bytes as they stand in a JSON text
abbrev pub text_of : Coding → List ℕ → List ℕ
text_of c bytes = flat_map (byte_text c) bytes
