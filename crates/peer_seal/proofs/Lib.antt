mod Differing
