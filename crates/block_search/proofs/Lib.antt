mod OnCopy
