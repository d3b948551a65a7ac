-- The lines of a report as they are put, piece by piece.
use Rattle.std.proofs.Common.{◌≡◌, ℕ, List, [], ◌∷◌, ◌++◌, map, refl, sym, ap, ◌∙◌, append_assoc, append-nil}
use Rattle.std.specs.List.{flat_map}
use denote.Ref.{Bor}
use Rattle.std.specs.Prelude.{codes, decimal}
use Rattle.std.proofs.lemmas.List.Folds.{flat_map-map}
use Rattle.cache_model.specs.declared.entry.Entry.{Entry}
use Rattle.rows.specs.declared.reply_kind.ReplyKind.{ReplyKind}
use Rattle.rows.specs.declared.reply_kind.ReplyKind.TheVariants as kinds
use Rattle.rows.specs.Apply.{Reply, Stored, Replaced, Value, Missing, Erased, Keys}
use Rattle.cache_model.specs.Report.{Occupancy, line, answer_text, entry_text, journal_text, reply_text, occupancy_text}
use Rattle.rows.specs.Spelled.{spelled}
use Rattle.cache_model.specs.Summary.{Tally, tally_text}
use Rattle.run_log.specs.JournalState.{JournalState}
use Rattle.report_text.specs.inside.Spells.{Spells}
use Rattle.report_text.specs.inside.Words.{word}
use Rattle.report_text.proofs.KeysOfReplies.{keys_of}

-- ---- what stands for each element of a list

abbrev pub entry_piece : Entry → List ℕ
entry_piece entry = 32 ∷ entry_text entry

abbrev pub key_piece : List ℕ → List ℕ
key_piece key = 32 ∷ key

abbrev pub word_piece : Bor (List ℕ) → List ℕ
word_piece word = 32 ∷ word.now

abbrev pub field_piece : Bor (List ℕ) × ℕ → List ℕ
field_piece field = field.0.now ++ decimal field.1

abbrev pub answer_line : ℕ × Reply → List ℕ
answer_line answer = line (answer_text answer)

abbrev pub entries_of : JournalState → List Entry
entries_of journal = journal.entries

abbrev pub journal_line : ℕ × List Entry → List ℕ
journal_line journal = line (journal_text journal)

abbrev pub occupancy_line : ℕ × Occupancy → List ℕ
occupancy_line occupancy = line (occupancy_text occupancy)

pub words_are : (words : List (Bor (List ℕ))) → flat_map word_piece words ≡ flat_map key_piece (map (λ word. word.now) words)
words_are words = sym (flat_map-map key_piece (λ (word : Bor (List ℕ)). word.now) words)

-- ---- a line by its pieces

five : (a x b y c z d w e v n : List ℕ) → ((a ++ x) ++ ((b ++ y) ++ ((c ++ z) ++ ((d ++ w) ++ ((e ++ v) ++ []))))) ++ n ≡ a ++ x ++ b ++ y ++ c ++ z ++ d ++ w ++ e ++ v ++ n
five a x b y c z d w e v n = simp (append_assoc, append-nil)

pub shard_line_is : (shard : ℕ) (o : Occupancy)
    → ((codes "shard " ++ decimal shard) ++ ((codes " rows " ++ decimal o.rows) ++ ((codes " live " ++ decimal o.live) ++ ((codes " lent " ++ decimal o.lent) ++ ((codes " back " ++ decimal o.back) ++ []))))) ++ codes "\n"
    ≡ line (occupancy_text (shard, o))
shard_line_is shard o =
    five (codes "shard ") (decimal shard) (codes " rows ") (decimal o.rows) (codes " live ") (decimal o.live) (codes " lent ") (decimal o.lent) (codes " back ") (decimal o.back) (codes "\n")

six : (a x b y c z d w e v f u n : List ℕ)
    → ((a ++ x) ++ ((b ++ y) ++ ((c ++ z) ++ ((d ++ w) ++ ((e ++ v) ++ ((f ++ u) ++ [])))))) ++ n ≡ a ++ x ++ b ++ y ++ c ++ z ++ d ++ w ++ e ++ v ++ f ++ u ++ n
six a x b y c z d w e v f u n = simp (append_assoc, append-nil)

pub tally_line_is : (t : Tally)
    → ((codes "stored " ++ decimal t.stored) ++ ((codes " replaced " ++ decimal t.replaced) ++ ((codes " values " ++ decimal t.values)
    ++ ((codes " missing " ++ decimal t.missing) ++ ((codes " erased " ++ decimal t.erased) ++ ((codes " scans " ++ decimal t.scans) ++ [])))))) ++ codes "\n"
    ≡ line (tally_text t)
tally_line_is t =
    six (codes "stored ") (decimal t.stored) (codes " replaced ") (decimal t.replaced) (codes " values ") (decimal t.values) (codes " missing ") (decimal t.missing)
    (codes " erased ") (decimal t.erased) (codes " scans ") (decimal t.scans) (codes "\n")

pub commands_line_is : (n m : ℕ) → m ≡ n → ((codes "commands " ++ decimal m) ++ []) ++ codes "\n" ≡ line (codes "commands " ++ decimal n)
commands_line_is n m is = ap (λ l. l ++ codes "\n") (append-nil (codes "commands " ++ decimal m)) ∙ ap (λ k. line (codes "commands " ++ decimal k)) is

-- ---- a reply as it is spelled

abbrev word_and_body : ReplyKind × List ℕ → List ℕ
word_and_body part = word part.0 ++ part.1

words : (kind : ReplyKind) (body : List ℕ) (reply : Reply) → (kind, body) ≡ spelled reply → (kind ≡ kinds.Keys → ⊥) → word kind ++ body ≡ reply_text reply
words kind body Stored is plain = ap word_and_body is
words kind body Replaced is plain = ap word_and_body is
words kind body (Value value) is plain = ap word_and_body is
words kind body Missing is plain = ap word_and_body is
words kind body Erased is plain = ap word_and_body is
words kind body (Keys keys) is plain = absurd (plain (ap (λ p. p.0) is))

-- a reply without keys
pub words_spelled : (kind : ReplyKind) (body : List ℕ) (reply : Reply) → Spells kind body reply → (kind ≡ kinds.Keys → ⊥) → word kind ++ body ≡ reply_text reply
words_spelled kind body reply p plain = words kind body reply p.spelled plain

word_of : (reply : Reply) → (later : List ℕ) × (word (spelled reply).0 ++ later ≡ reply_text reply)
word_of Stored = ([], refl)
word_of Replaced = ([], refl)
word_of (Value value) = (value, refl)
word_of Missing = ([], refl)
word_of Erased = ([], refl)
word_of (Keys keys) = (flat_map key_piece keys, refl)

-- a reply begins with its word
pub begins : (kind : ReplyKind) (body : List ℕ) (reply : Reply) → Spells kind body reply → (later : List ℕ) × (word kind ++ later ≡ reply_text reply)
begins kind body reply p =
    let later = word_of reply in
    (later.0, ap (λ (part : ReplyKind × List ℕ). word part.0 ++ later.0) p.spelled ∙ later.1)

key_words : (reply : Reply) → (spelled reply).0 ≡ kinds.Keys → word kinds.Keys ++ flat_map key_piece (keys_of reply) ≡ reply_text reply
key_words Stored is = cc is
key_words Replaced is = cc is
key_words (Value value) is = cc is
key_words Missing is = cc is
key_words Erased is = cc is
key_words (Keys keys) is = refl

-- a reply of keys
pub keys_said : (kind : ReplyKind) (body : List ℕ) (reply : Reply) → Spells kind body reply → kind ≡ kinds.Keys → word kind ++ flat_map key_piece (keys_of reply) ≡ reply_text reply
keys_said kind body reply p keys =
    ap (λ k. word k ++ flat_map key_piece (keys_of reply)) keys ∙ key_words reply (sym (ap (λ (part : ReplyKind × List ℕ). part.0) p.spelled) ∙ keys)

pub reply_line_is : (number : ℕ) (reply : Reply) → decimal number ++ codes " " ++ reply_text reply ++ codes "\n" ≡ line (answer_text (number, reply))
reply_line_is number reply = ap (λ l. l ++ codes "\n") (append_assoc (decimal number) (codes " ") (reply_text reply))

pub keys_line_is : (number : ℕ) (keys : List (List ℕ)) → decimal number ++ codes " keys" ++ flat_map key_piece keys ++ codes "\n" ≡ line (answer_text (number, Keys keys))
keys_line_is number keys = ap (λ l. l ++ codes "\n") (append_assoc (decimal number) (codes " keys") (flat_map key_piece keys))
