use Rattle.std.proofs.Common.{◌≡◌, ℕ, List, ◌++◌, length, ap, ◌∙◌, append_assoc}
use Rattle.pixel_translate.specs.Pixel.{be16, be32, format_bytes, server_format}
use Rattle.messages.specs.Server.{server_init}
use Rattle.messages.proofs.writers.put_server_init.Goals as goal

-- five appends are one
joined : (o a b p d e v w x y z : List ℕ) → v ≡ o ++ a → w ≡ v ++ b → x ≡ w ++ p → y ≡ x ++ d → z ≡ y ++ e → z ≡ o ++ (a ++ b ++ p ++ d ++ e)
joined o a b p d e v w x y z ea eb ep ed ee = rw (ee, ed, ep, eb, ea) (simp append_assoc)

behind : (o : List ℕ) {a b : List ℕ} → a ≡ b → o ++ a ≡ o ++ b
behind o e = ap (λ (t : List ℕ). o ++ t) e

pub returns-clause-ok : goal.returns-clause-ok
returns-clause-ok c =
    joined c.reserve.new.self.items (be16 c.args.width) (be16 c.args.height) (format_bytes server_format) (be32 (length c.args.name.now)) c.args.name.now
    c.append.new.out.items c.append-2.new.out.items c.append-3.new.out.items c.append-4.new.out.items c.append-5.new.out.items
    (c.append.ensures.items ∙ behind c.reserve.new.self.items c.to_be_bytes.ensures)
    (c.append-2.ensures.items ∙ behind c.append.new.out.items c.to_be_bytes-2.ensures)
    (c.append-3.ensures.items ∙ behind c.append-2.new.out.items (c.to_bytes.ensures ∙ ap format_bytes c.server.ensures))
    (c.append-4.ensures.items ∙ behind c.append-3.new.out.items c.to_be_bytes-3.ensures)
    c.append-5.ensures.items
    ∙ ap (λ (o : List ℕ). o ++ server_init c.args.width c.args.height c.args.name.now) c.reserve.ensures.items
